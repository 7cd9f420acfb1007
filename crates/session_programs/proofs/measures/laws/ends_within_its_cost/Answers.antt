use Rattle.session_programs.proofs.measures_lemmas.LengthWithinCost.{ends_within}
use Rattle.session_programs.proofs.measures.laws.ends_within_its_cost.Goals as goal

pub returns : goal.returns
returns c = ends_within
