use Rattle.session_language.proofs.LawProofs.{unambiguous}
use Rattle.session_language.proofs.laws.expressions_are_unambiguous.Goals as goal

pub returns : goal.returns
returns c = unambiguous
