use Rattle.drinking_core.proofs.BottlePlaces.{each_has_one_place}
use Rattle.drinking_core.proofs.laws.each_has_one_place.Goals as goal

pub returns : goal.returns
returns c = each_has_one_place
