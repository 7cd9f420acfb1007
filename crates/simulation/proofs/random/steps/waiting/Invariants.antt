use Rattle.std.proofs.Common.{◌≡◌, ◌≤◌, ◌*◌}
use Rattle.simulation.specs.random.refinement.Steps.{messages_below}
use Rattle.simulation.proofs.random.steps.waiting.Given as goal

abbrev pub invariant-loop-v : goal.invariant-loop-v
invariant-loop-v l = record {
  few : l.count ≤ 18 * l.v;
  all : l.count ≡ messages_below l.office l.v;
}
