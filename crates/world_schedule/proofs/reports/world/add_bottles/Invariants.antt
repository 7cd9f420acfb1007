use Rattle.std.proofs.Common.{◌≡◌, ◌++◌}
use Rattle.std.specs.List.{flat_map, range_with_len}
use Rattle.std.specs.String.{string_bytes}
use Rattle.session_reports.specs.form.Forms.{value_as}
use Rattle.world_schedule.specs.reports.WorldReport.{bottle_value}
use Rattle.world_schedule.proofs.reports.world.add_bottles.Given as goal

abbrev pub invariant-loop-i : goal.invariant-loop-i
invariant-loop-i l = string_bytes l.text ≡ string_bytes l.initial.text ++ flat_map (λ r. value_as l.form l.world.plan r (bottle_value l.world r)) (range_with_len 0 l.i)
