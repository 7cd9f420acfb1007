use Rattle.journal_texts.proofs.wording_lemmas.RuleWords.{rules_read_back}
use Rattle.journal_texts.proofs.wording.laws.rules_read_back.Goals as goal

pub returns : goal.returns
returns c = rules_read_back
