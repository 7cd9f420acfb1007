use Rattle.std.proofs.Common.{◌≡◌, take}
use Rattle.session_programs.proofs.program.with_codes.Given as goal

abbrev pub invariant-loop-program : goal.invariant-loop-program
invariant-loop-program l = l.coded.items ≡ take l.program-index l.programs
