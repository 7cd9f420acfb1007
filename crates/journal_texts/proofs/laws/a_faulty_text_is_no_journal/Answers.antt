use Rattle.journal_texts.proofs.OneJournal.{no_faulty_journal}
use Rattle.journal_texts.proofs.laws.a_faulty_text_is_no_journal.Goals as goal

pub returns : goal.returns
returns c = no_faulty_journal
