use Rattle.std.proofs.Common.{◌≡◌, ◌≤◌, take}
use Rattle.std.specs.Prelude.{◌==◌, count_by}
use Rattle.session_meaning.specs.ProgramValue.{ProgramValue}
use Rattle.day_audits.proofs.ends.files.count_of.Given as goal

abbrev pub invariant-loop-program : goal.invariant-loop-program
invariant-loop-program l = (l.count ≡ count_by (λ (p : ProgramValue). p.office == l.office) (take l.program-index l.programs)) × (l.count ≤ l.program-index)
