use Rattle.journal_texts.proofs.OneJournal.{one_journal}
use Rattle.journal_texts.proofs.laws.a_text_is_one_journal.Goals as goal

pub returns : goal.returns
returns c = one_journal
