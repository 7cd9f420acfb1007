use Rattle.drinking_core.proofs.BottleLaws.{values_stay}
use Rattle.drinking_core.proofs.laws.values_stay.Goals as goal

pub returns : goal.returns
returns c = values_stay
