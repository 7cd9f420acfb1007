use Rattle.dining_core.proofs.ForkPlaces.{neighbours_stay}
use Rattle.dining_core.proofs.laws.neighbours_stay.Goals as goal

pub returns : goal.returns
returns c = neighbours_stay
