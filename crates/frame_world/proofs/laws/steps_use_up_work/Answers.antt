-- steps_use_up_work
use Rattle.frame_world.proofs.work.WorkGoesDown.{steps_use_up_work}
use Rattle.frame_world.proofs.laws.steps_use_up_work.Goals as goal

pub returns : goal.returns
returns c = steps_use_up_work c.each_has_one_place.ensures c.each_has_one_place-2.ensures c.parts_hold.ensures c.ends_within_its_cost.ensures
