use Rattle.std.proofs.Common.{◌≡◌, map, take}
use Rattle.simulation.proofs.random.submission.all_of.Given as goal

abbrev pub invariant-loop-program : goal.invariant-loop-program
invariant-loop-program l = map (λ p. p.now) l.waiting.items ≡ take l.program-index l.programs
