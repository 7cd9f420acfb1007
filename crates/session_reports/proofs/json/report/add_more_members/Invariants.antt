use Rattle.std.proofs.Common.{◌≡◌, ◌++◌, ◌∷◌, take}
use Rattle.std.specs.List.{flat_map}
use Rattle.std.specs.String.{string_bytes}
use Rattle.session_reports.specs.json.Json.{json_member}
use Rattle.session_reports.proofs.json.report.add_more_members.Given as goal

abbrev pub invariant-loop-id : goal.invariant-loop-id
invariant-loop-id l = string_bytes l.text ≡ string_bytes l.initial.text ++ flat_map (λ w. 44 ∷ json_member l.plan w) (take l.id-index l.records)
