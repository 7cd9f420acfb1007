use Rattle.std.specs.String.{string_bytes}
use Rattle.day_audits.proofs.ends_lemmas.Offices.{IsSoFar}
use Rattle.day_audits.proofs.ends.worlds.left_of.Given as goal

abbrev pub invariant-loop-a : goal.invariant-loop-a
invariant-loop-a l = IsSoFar l.world l.a (string_bytes l.text)
