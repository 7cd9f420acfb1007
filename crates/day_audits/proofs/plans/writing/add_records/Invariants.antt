use Rattle.std.proofs.Common.{◌≡◌, ◌++◌, take}
use Rattle.std.specs.Prelude.{All, IsTrue}
use Rattle.std.specs.String.{string_bytes}
use Rattle.bottle_values.specs.Operations.{is_value}
use Rattle.session_reports.specs.Report.{value_at}
use Rattle.day_audits.specs.carried.Days.{with_values}
use Rattle.day_audits.specs.plans.WrittenPlans.{record_lines}
use Rattle.day_audits.proofs.plans.writing.add_records.Given as goal

abbrev pub invariant-loop-i : goal.invariant-loop-i
invariant-loop-i l = (string_bytes l.text ≡ string_bytes l.initial.text ++ record_lines l.plan (with_values (value_at l.values) 0 (take l.i l.plan.records))) × All (λ v. IsTrue (is_value v)) (take l.i l.values)
