use Rattle.office_map.proofs.LeastFirstOrders.{one_order}
use Rattle.office_map.proofs.laws.one_order_is_least_first.Goals as goal

pub returns : goal.returns
returns c = one_order
