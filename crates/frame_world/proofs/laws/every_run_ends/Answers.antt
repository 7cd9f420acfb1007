use Rattle.frame_world.proofs.work.RunsEnd.{every_run_ends}
use Rattle.frame_world.proofs.laws.every_run_ends.Goals as goal

pub returns : goal.returns
returns c = every_run_ends c.steps_use_up_work.ensures
