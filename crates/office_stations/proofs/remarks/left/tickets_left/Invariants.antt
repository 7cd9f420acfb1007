use Rattle.std.proofs.Common.{◌≡◌}
use Rattle.std.specs.List.{filter}
use Rattle.office_stations.specs.remarks.Left.{is_left, tickets_to}
use Rattle.office_stations.proofs.remarks.left.tickets_left.Given as goal

abbrev pub invariant-loop-i : goal.invariant-loop-i
invariant-loop-i l = l.tickets.items ≡ filter (is_left l.office) (tickets_to l.i)
