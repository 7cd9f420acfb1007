use Rattle.std.proofs.Common.{◌≡◌, ◌++◌, take, drop}
use Rattle.session_programs.specs.measures.Needs.{with_record}
use Rattle.session_programs.proofs.measures.needs.place_for.Given as goal

-- the record comes after all that were passed
abbrev pub invariant-loop-i : goal.invariant-loop-i
invariant-loop-i l = take l.i l.needs ++ with_record l.id (drop l.i l.needs) ≡ with_record l.id l.needs
