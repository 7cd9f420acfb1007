use Rattle.std.proofs.Common.{length}
use Rattle.session_streams.specs.requests.refinement.{Takes, taking_of}
use Rattle.session_streams.proofs.requests.intake.Intake.take.Given as goal

abbrev pub invariant-loop-rest : goal.invariant-loop-rest
invariant-loop-rest l = Takes l.plan l.me (taking_of l.initial.self) l.initial.asked.items l.bytes (taking_of l.self) l.asked.items l.rest

abbrev pub decreases-loop-rest : goal.decreases-loop-rest
decreases-loop-rest l = length l.rest
