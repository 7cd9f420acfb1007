use Rattle.std.proofs.Common.{refl}
use Rattle.serial_replay.specs.refinement.WalkRefinement.{environment_of}
use Rattle.serial_replay.proofs.StackEvaluation.{begun}
use Rattle.serial_replay.proofs.evaluate.value_of.Goals as goal

pub loop-i-init : goal.loop-i-init
loop-i-init c = begun (environment_of c.args.environment.now) c.args.e.now c.nodes-nodes.result _ _ c.nodes-nodes.ensures refl c.requires refl
