use Rattle.session_language.proofs.LawProofs.{by_grammar}
use Rattle.session_language.proofs.laws.reads_the_grammar.Goals as goal

pub returns : goal.returns
returns c = by_grammar
