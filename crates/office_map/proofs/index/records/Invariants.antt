use Rattle.std.proofs.Common.{◌≡◌}
use Rattle.std.specs.List.{filter, range_with_len}
use Rattle.office_map.specs.PlanValue.{is_end}
use Rattle.office_map.proofs.index.records.Given as goal

abbrev pub invariant-loop-number : goal.invariant-loop-number
invariant-loop-number l =
    l.records.items ≡ filter (λ r. is_end l.tables r l.office) (range_with_len 0 l.number)
