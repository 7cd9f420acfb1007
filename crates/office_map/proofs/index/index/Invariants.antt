use Rattle.std.proofs.Common.{◌≡◌, map}
use Rattle.std.specs.List.{range_with_len}
use Rattle.office_map.specs.PlanValue.{neighbours_of, records_of}
use Rattle.office_map.proofs.index.index.Given as goal

abbrev pub invariant-loop-number : goal.invariant-loop-number
invariant-loop-number l =
    l.index.items ≡ map (λ office. (neighbours_of l.tables office, records_of l.tables office)) (range_with_len 0 l.number)
