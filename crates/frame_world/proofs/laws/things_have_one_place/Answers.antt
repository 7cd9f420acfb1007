use Rattle.frame_world.proofs.PlacesAndForks.{things_have_one_place}
use Rattle.frame_world.proofs.laws.things_have_one_place.Goals as goal

pub returns : goal.returns
returns c = things_have_one_place c.each_has_one_place.ensures c.each_has_one_place-2.ensures
