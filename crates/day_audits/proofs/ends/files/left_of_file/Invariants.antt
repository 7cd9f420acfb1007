use Rattle.std.specs.String.{string_bytes}
use Rattle.day_audits.proofs.ends_lemmas.FileSessions.{IsSoFar}
use Rattle.day_audits.proofs.ends.files.left_of_file.Given as goal

abbrev pub invariant-loop-i : goal.invariant-loop-i
invariant-loop-i l = IsSoFar l.world l.programs l.i (string_bytes l.text)
