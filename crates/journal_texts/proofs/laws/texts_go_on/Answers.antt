use Rattle.journal_texts.proofs.WrittenSoFar.{texts_go_on}
use Rattle.journal_texts.proofs.laws.texts_go_on.Goals as goal

pub returns : goal.returns
returns c = texts_go_on
