use Rattle.session_language.proofs.LineGrammar.{by_grammar}
use Rattle.session_language.proofs.laws.reads_the_forms.Goals as goal

pub returns : goal.returns
returns c = by_grammar
