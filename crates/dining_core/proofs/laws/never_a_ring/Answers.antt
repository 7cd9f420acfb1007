use Rattle.dining_core.proofs.ForkLaws.{never_a_ring}
use Rattle.dining_core.proofs.laws.never_a_ring.Goals as goal

pub returns : goal.returns
returns c = never_a_ring
