use Rattle.drinking_core.proofs.BottleLaws.{each_has_its_spots}
use Rattle.drinking_core.proofs.laws.each_has_its_spots.Goals as goal

pub returns : goal.returns
returns c = each_has_its_spots
