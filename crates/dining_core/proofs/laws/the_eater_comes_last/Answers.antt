use Rattle.dining_core.proofs.ForkLaws.{the_eater_comes_last}
use Rattle.dining_core.proofs.laws.the_eater_comes_last.Goals as goal

pub returns : goal.returns
returns c = the_eater_comes_last
