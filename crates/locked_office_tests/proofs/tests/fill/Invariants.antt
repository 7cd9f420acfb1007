use Rattle.std.proofs.Common.{◌≡◌, false}
use Rattle.own_lock.specs.Passes.{IsOf}
use Rattle.locked_office_tests.proofs.tests.fill.Given as goal

abbrev pub invariant-loop-i : goal.invariant-loop-i
invariant-loop-i g l = IsOf l.desk l.pass × (l.pass.holds ≡ false)
