use Rattle.std.proofs.Common.{◌≡◌, ◌++◌, take}
use Rattle.std.specs.String.{string_bytes}
use Rattle.day_audits.specs.plans.WrittenPlans.{office_lines}
use Rattle.day_audits.proofs.plans.writing.add_offices.Given as goal

abbrev pub invariant-loop-i : goal.invariant-loop-i
invariant-loop-i l = string_bytes l.text ≡ string_bytes l.initial.text ++ office_lines (take l.i l.plan.offices)
