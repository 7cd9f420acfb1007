use Rattle.dining_core.proofs.ForkLaws.{starts_dirty}
use Rattle.dining_core.proofs.laws.forks_start_dirty.Goals as goal

pub returns : goal.returns
returns c = starts_dirty
