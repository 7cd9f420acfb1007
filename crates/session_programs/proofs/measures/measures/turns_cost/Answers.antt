use Rattle.std.proofs.Common.{rules}
use Rattle.session_programs.proofs.measures.measures.turns_cost.Goals as goal

pub returns : goal.returns
returns c = search rules
