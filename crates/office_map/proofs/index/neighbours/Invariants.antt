use Rattle.std.proofs.Common.{◌≡◌}
use Rattle.std.specs.List.{filter, range_with_len}
use Rattle.office_map.specs.PlanValue.{are_neighbours}
use Rattle.office_map.proofs.index.neighbours.Given as goal

abbrev pub invariant-loop-number : goal.invariant-loop-number
invariant-loop-number l =
    l.neighbours.items ≡ filter (are_neighbours l.tables l.office) (range_with_len 0 l.number)
