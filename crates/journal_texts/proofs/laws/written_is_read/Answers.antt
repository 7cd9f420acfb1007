use Rattle.std.proofs.Common.{arith}
use Rattle.journal_texts.proofs.LegalEntries.{legal_entries}
use Rattle.journal_texts.proofs.WrittenLines.{is_journal_text}
use Rattle.journal_texts.proofs.laws.written_is_read.Goals as goal

pub returns : goal.returns
returns c = λ p office entries ok inside run legal back. is_journal_text p office entries ok inside (omega (arith, run)) (legal_entries p office entries ok legal) back
