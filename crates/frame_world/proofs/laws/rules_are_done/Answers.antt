use Rattle.frame_world.proofs.StepsTaken.{rules_are_done}
use Rattle.frame_world.proofs.laws.rules_are_done.Goals as goal

pub returns : goal.returns
returns c = rules_are_done
