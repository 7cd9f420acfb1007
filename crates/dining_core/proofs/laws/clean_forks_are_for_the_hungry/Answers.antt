use Rattle.dining_core.proofs.CleanForks.{clean_forks_are_for_the_hungry}
use Rattle.dining_core.proofs.laws.clean_forks_are_for_the_hungry.Goals as goal

pub returns : goal.returns
returns c = clean_forks_are_for_the_hungry
