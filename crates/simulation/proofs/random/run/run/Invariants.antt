use Rattle.std.proofs.Common.{◌≤◌, ◌-◌, length, map}
use Rattle.std.specs.Prelude.{All}
use Rattle.frame_world.specs.Worlds.{opening}
use Rattle.simulation.specs.random.Runs.{IsRefused}
use Rattle.simulation.specs.random.refinement.Steps.{HasCome}
use Rattle.simulation.proofs.random.run.run.Given as goal

-- the moves so far, and that those that wait are refused
abbrev pub invariant-loop-done : goal.invariant-loop-done
invariant-loop-done l = record {
  few : l.done ≤ l.schedule.steps;
  come : HasCome l.schedule.loss l.done (length l.programs) (opening l.plan) l.world l.programs (map (λ p. p.now) l.waiting.items);
  refused : All (IsRefused l.world) (map (λ p. p.now) l.waiting.items);
}

abbrev pub decreases-loop-done : goal.decreases-loop-done
decreases-loop-done l = l.schedule.steps - l.done
