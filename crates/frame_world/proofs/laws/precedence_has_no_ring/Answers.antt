use Rattle.frame_world.proofs.PlacesAndForks.{precedence_has_no_ring}
use Rattle.frame_world.proofs.laws.precedence_has_no_ring.Goals as goal

pub returns : goal.returns
returns c = precedence_has_no_ring c.no_ring_from_an_accepted_plan.ensures
