use Rattle.drinking_core.proofs.BottleLaws.{no_other_spot}
use Rattle.drinking_core.proofs.laws.no_other_spot.Goals as goal

pub returns : goal.returns
returns c = no_other_spot
