use Rattle.std.proofs.Common.{◌≡◌, take}
use Rattle.std.specs.List.{flat_map}
use Rattle.std.specs.String.{string_bytes}
use Rattle.session_reports.specs.json.Json.{json_outcome}
use Rattle.session_reports.proofs.json.report.report.Given as goal

abbrev pub invariant-loop-outcome : goal.invariant-loop-outcome
invariant-loop-outcome l = string_bytes l.text ≡ flat_map (json_outcome l.plan) (take l.outcome-index l.outcomes)
