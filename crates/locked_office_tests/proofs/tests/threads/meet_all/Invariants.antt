use Rattle.std.proofs.Common.{◌≡◌, false, length}
use Rattle.std.specs.List.{All}
use Rattle.own_lock.specs.Passes.{IsOf}
use Rattle.locked_office_tests.proofs.tests.threads.meet_all.Given as goal

abbrev pub invariant-loop-other : goal.invariant-loop-other
invariant-loop-other l = IsOf l.desk l.pass × (l.pass.holds ≡ false) × All (λ back. IsOf l.desk back.0 × (back.0.holds ≡ false)) l.all.items

abbrev pub decreases-loop-other : goal.decreases-loop-other
decreases-loop-other l = length l.all.items
