use Rattle.dining_core.proofs.Standstill.{the_thirsty_wait_for_an_eater}
use Rattle.dining_core.proofs.laws.the_thirsty_wait_for_an_eater.Goals as goal

pub returns : goal.returns
returns c = the_thirsty_wait_for_an_eater
