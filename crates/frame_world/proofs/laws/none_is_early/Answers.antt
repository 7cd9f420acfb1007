use Rattle.frame_world.proofs.NoneEarly.{none_is_early}
use Rattle.frame_world.proofs.laws.none_is_early.Goals as goal

pub returns : goal.returns
returns c = none_is_early c.no_frame_is_far_ahead.ensures
