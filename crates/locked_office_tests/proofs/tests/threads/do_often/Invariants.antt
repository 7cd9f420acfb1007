use Rattle.std.proofs.Common.{◌≡◌, false}
use Rattle.own_lock.specs.Passes.{IsOf}
use Rattle.locked_office_tests.proofs.tests.threads.do_often.Given as goal

abbrev pub invariant-loop : goal.invariant-loop
invariant-loop g l = IsOf l.desk l.pass × (l.pass.holds ≡ false)
