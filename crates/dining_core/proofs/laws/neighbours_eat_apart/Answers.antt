use Rattle.dining_core.proofs.EatersForks.{neighbours_eat_apart}
use Rattle.dining_core.proofs.laws.neighbours_eat_apart.Goals as goal

pub returns : goal.returns
returns c = neighbours_eat_apart
