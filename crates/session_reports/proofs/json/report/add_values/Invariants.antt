use Rattle.std.proofs.Common.{◌≡◌, ◌++◌}
use Rattle.std.specs.List.{flat_map, range_with_len}
use Rattle.std.specs.String.{string_bytes}
use Rattle.session_reports.specs.Report.{value_at}
use Rattle.session_reports.specs.json.Json.{json_value_line}
use Rattle.session_reports.proofs.json.report.add_values.Given as goal

abbrev pub invariant-loop-i : goal.invariant-loop-i
invariant-loop-i l = string_bytes l.text ≡ string_bytes l.initial.text ++ flat_map (λ r. json_value_line l.plan r (value_at l.values r)) (range_with_len 0 l.i)
