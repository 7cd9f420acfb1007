use Rattle.frame_world.proofs.FewWait.{no_frame_is_far_ahead}
use Rattle.frame_world.proofs.laws.no_frame_is_far_ahead.Goals as goal

pub returns : goal.returns
returns c = no_frame_is_far_ahead c.opens_as_the_plan_starts.ensures c.each_has_one_place.ensures c.each_has_one_place-2.ensures
