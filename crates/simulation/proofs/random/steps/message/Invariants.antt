use Rattle.std.proofs.Common.{◌≡◌, ◌+◌}
use Rattle.simulation.specs.random.refinement.Steps.{messages_below}
use Rattle.simulation.proofs.random.steps.message.Given as goal

abbrev pub invariant-loop-v : goal.invariant-loop-v
invariant-loop-v l = l.left + messages_below l.office l.v ≡ l.place
