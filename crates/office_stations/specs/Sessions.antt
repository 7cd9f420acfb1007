-- The sessions of an office, of those of a run, and those of its that have finished.
use Rattle.std.specs.Prelude.{ℕ, ◌==◌, List}
use Rattle.std.specs.List.{count_by}
use Rattle.session_meaning.specs.ProgramValue.{ProgramValue}
use Rattle.session_meaning.specs.declared.ending.Outcome.{Outcome}
use Rattle.site_core.specs.Journals.{Site, office_of}

-- how many of the sessions are of an office
abbrev pub count_of : List ProgramValue → ℕ → ℕ
count_of programs me = count_by (λ (p : ProgramValue). p.office == me) programs

-- the sessions of an office that have finished at the end of its journal, by ticket
abbrev pub finished_of : Site → List Outcome
finished_of s = (office_of s).agenda.outcomes
