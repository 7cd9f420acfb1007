use Rattle.std.proofs.Common.{◌≡◌, ◌++◌, take}
use Rattle.std.specs.List.{flat_map}
use Rattle.std.specs.String.{string_bytes}
use Rattle.session_reports.specs.form.Forms.{outcome_as}
use Rattle.session_reports.proofs.form.report.add_outcomes.Given as goal

abbrev pub invariant-loop-outcome : goal.invariant-loop-outcome
invariant-loop-outcome l = string_bytes l.text ≡ string_bytes l.initial.text ++ flat_map (outcome_as l.form l.plan) (take l.outcome-index l.outcomes)
