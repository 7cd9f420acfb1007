use Rattle.std.proofs.Common.{◌≡◌, ◌≤◌, ◌-◌}
use Rattle.world_schedule.specs.Resting.{RestIn}
use Rattle.simulation.specs.scripts.Runs.{settled}
use Rattle.simulation.proofs.scripts.transcript.settle.Given as goal

abbrev pub invariant-loop-done : goal.invariant-loop-done
invariant-loop-done l = record {
  few : l.done ≤ l.most;
  same : settled l.initial.world 0 l.most ≡ settled l.world l.done (l.most - l.done);
  rest : RestIn l.world l.resting;
}

abbrev pub decreases-loop-done : goal.decreases-loop-done
decreases-loop-done l = l.most - l.done
