use Rattle.office_map.proofs.Rings.{no_ring}
use Rattle.office_map.proofs.laws.an_order_has_no_ring.Goals as goal

pub returns : goal.returns
returns c = no_ring
