use Rattle.std.proofs.Common.{drop}
use Rattle.serial_replay.specs.refinement.WalkRefinement.{environment_of}
use Rattle.serial_replay.proofs.StackEvaluation.{IsSoFar}
use Rattle.serial_replay.proofs.evaluate.value_of.Given as goal

-- the nodes that are left, on the stack so far, leave the value
abbrev pub invariant-loop-i : goal.invariant-loop-i
invariant-loop-i l = IsSoFar (environment_of l.environment) l.e (drop l.i l.nodes) l.top l.below l.waiting
