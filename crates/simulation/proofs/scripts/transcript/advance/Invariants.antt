use Rattle.std.proofs.Common.{◌≡◌, ◌≤◌, ◌-◌}
use Rattle.simulation.specs.scripts.Runs.{advanced}
use Rattle.simulation.proofs.scripts.transcript.advance.Given as goal

abbrev pub invariant-loop-done : goal.invariant-loop-done
invariant-loop-done l = record {
  plan : l.world.plan ≡ l.initial.world.plan;
  few : l.done ≤ l.n;
  same : advanced l.initial.world l.office 0 l.n ≡ advanced l.world l.office l.done (l.n - l.done);
}

abbrev pub decreases-loop-done : goal.decreases-loop-done
decreases-loop-done l = l.n - l.done
