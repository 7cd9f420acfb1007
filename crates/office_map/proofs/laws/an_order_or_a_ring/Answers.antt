use Rattle.office_map.proofs.OrderOrRing.{order_or_ring}
use Rattle.office_map.proofs.laws.an_order_or_a_ring.Goals as goal

pub returns : goal.returns
returns c = order_or_ring
