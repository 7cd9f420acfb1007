-- The texts of the sessions that are left.
use Rattle.std.specs.Prelude.{◌≡◌, ℕ, ◌≤◌, List, [], ◌∷◌, length, All, Ok}
use Rattle.std.specs.List.{flat_map}
use Rattle.office_map.specs.PlanValue.{PlanValue}
use Rattle.session_meaning.specs.ProgramValue.{ProgramValue}
use Rattle.session_programs.specs.Program.{text_under}
use Rattle.session_language.specs.Limits.{most_sessions, most_text}
use Rattle.session_language.specs.Reading.{sessions_of}
use Rattle.site_core.specs.Journals.{Site}
use Rattle.day_audits.specs.left.Left.{left_programs}

-- the texts of programs under a plan's names, one after the other
abbrev pub texts_of : PlanValue → List ProgramValue → List ℕ
texts_of p = flat_map (text_under p)

-- the programs that all these offices have left, by office and ticket
abbrev pub all_left : List Site → List ProgramValue
all_left = flat_map left_programs

-- a program's text means that program
abbrev pub ReadsBack : PlanValue → ProgramValue → Type 0
ReadsBack p x = sessions_of p (text_under p x) ≡ Ok (x ∷ [])

-- so the texts of programs mean them, where they aren't too many or too long for a text of sessions
abbrev pub TextsAreReadInTurn : Type 0
TextsAreReadInTurn = (p : PlanValue) (xs : List ProgramValue) → All (ReadsBack p) xs → length xs ≤ most_sessions → length (texts_of p xs) ≤ most_text
    → sessions_of p (texts_of p xs) ≡ Ok xs
