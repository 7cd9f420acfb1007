use Rattle.dining_core.proofs.ForkLaws.{no_ring_from_plan}
use Rattle.dining_core.proofs.laws.no_ring_from_an_accepted_plan.Goals as goal

pub returns : goal.returns
returns c = no_ring_from_plan
