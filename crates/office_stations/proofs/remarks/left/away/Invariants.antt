use Rattle.std.proofs.Common.{◌≡◌, take}
use Rattle.std.specs.List.{filter}
use Rattle.office_stations.specs.remarks.Left.{is_away}
use Rattle.office_stations.proofs.remarks.left.away.Given as goal

abbrev pub invariant-loop-r : goal.invariant-loop-r
invariant-loop-r l = l.records.items ≡ filter (is_away l.office) (take l.r-index l.needs)
