use Rattle.frame_world.proofs.PlacesAndForks.{neighbours_eat_apart}
use Rattle.frame_world.proofs.laws.neighbours_never_eat_at_once.Goals as goal

pub returns : goal.returns
returns c = neighbours_eat_apart c.neighbours_eat_apart.ensures
