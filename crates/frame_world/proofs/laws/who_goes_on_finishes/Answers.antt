use Rattle.frame_world.proofs.work.RunsEnd.{who_goes_on_finishes}
use Rattle.frame_world.proofs.laws.who_goes_on_finishes.Goals as goal

pub returns : goal.returns
returns c = who_goes_on_finishes c.steps_use_up_work.ensures
