use Rattle.drinking_core.proofs.DrinkersNeeds.{drinkers_have_what_they_need}
use Rattle.drinking_core.proofs.laws.drinkers_have_what_they_need.Goals as goal

pub returns : goal.returns
returns c = drinkers_have_what_they_need
