use Rattle.std.proofs.Common.{◌-◌, length}
use Rattle.office_map.proofs.LeastFirstOrders.{IsBegun}
use Rattle.office_map.proofs.precedence.order.Given as goal

abbrev pub invariant-loop-office : goal.invariant-loop-office
invariant-loop-office l = IsBegun l.tables l.order.items

abbrev pub decreases-loop-office : goal.decreases-loop-office
decreases-loop-office l = length l.tables.offices - length l.order.items
