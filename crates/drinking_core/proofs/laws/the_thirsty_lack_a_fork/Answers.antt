use Rattle.drinking_core.proofs.Standstill.{the_thirsty_lack_a_fork}
use Rattle.drinking_core.proofs.laws.the_thirsty_lack_a_fork.Goals as goal

pub returns : goal.returns
returns c = the_thirsty_lack_a_fork
