use Rattle.frame_world.proofs.PlacesAndForks.{who_eats_has_its_forks}
use Rattle.frame_world.proofs.laws.who_eats_has_its_forks.Goals as goal

pub returns : goal.returns
returns c = who_eats_has_its_forks c.neighbours_stay.ensures c.eaters_have_their_forks.ensures
