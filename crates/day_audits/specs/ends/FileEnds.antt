-- Which sessions of a file haven't finished in a world, where each office's were submitted in the order of the file.
use Rattle.std.specs.Prelude.{◌≡◌, ◌≤◌, ℕ, Bool, is_none, List, [], ◌∷◌, ◌++◌, length, Ok, if◌then◌else◌}
use Rattle.session_meaning.specs.ProgramValue.{ProgramValue}
use Rattle.session_language.specs.Limits.{most_sessions, most_text}
use Rattle.session_language.specs.Reading.{sessions_of}
use Rattle.serial_replay.specs.Serial.{ticket_of}
use Rattle.site_core.specs.Readers.{outcome_with}
use Rattle.frame_world.specs.Worlds.{World, office_at}
use Rattle.day_audits.specs.left.LeftTexts.{texts_of}

-- the office of a session of a file, which comes after these, has no outcome with the ticket that it has there
abbrev pub is_unfinished : World → List ProgramValue → ProgramValue → Bool
is_unfinished w before x = is_none (outcome_with (office_at w x.office).agenda.outcomes (ticket_of before x))

-- that session, if it is so
abbrev pub one_left : World → List ProgramValue → ProgramValue → List ProgramValue
one_left w before x = if is_unfinished w before x then x ∷ [] else []

-- of these sessions, after those before them, the ones of which it is so
abbrev pub left_after : World → List ProgramValue → List ProgramValue → List ProgramValue
left_after w before [] = []
left_after w before (x ∷ xs) = one_left w before x ++ left_after w (before ++ x ∷ []) xs

abbrev pub left_in_file : World → List ProgramValue → List ProgramValue
left_in_file w = left_after w []

-- The text of these sessions of a file: it is read as them, where it is no longer than one may be.
pub record IsLeftOfFile (w : World) (programs : List ProgramValue) (text : List ℕ) : Type 0 where
  pub written : text ≡ texts_of w.plan (left_in_file w programs)
  pub read : length text ≤ most_text → sessions_of w.plan text ≡ Ok (left_in_file w programs)
