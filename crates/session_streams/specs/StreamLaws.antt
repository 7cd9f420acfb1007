-- Laws of what is heard of a stream.
use Rattle.std.specs.Prelude.{◌≡◌, ℕ, ◌+◌, ◌≤◌, List, [], ◌∷◌, ◌++◌, length, map, All, Ok, Err, true, false, ◌⊎◌}
use Rattle.office_map.specs.PlanValue.{PlanValue}
use Rattle.text_lines.specs.Text.{lines, statements}
use Rattle.session_meaning.specs.ProgramValue.{ProgramValue}
use Rattle.session_language.specs.declared.fault.SessionRefusal.{SessionRefusal}
use Rattle.session_language.specs.Limits.{most_text, most_sessions}
use Rattle.session_language.specs.Reading.{Reading, take_line, sessions_of}
use Rattle.session_streams.specs.Streams.{Told, Came, Faulty, passing_over, begins_session, heard_on, heard}

-- what is heard of a text
abbrev pub heard_of : PlanValue → List ℕ → List Told
heard_of p text = heard p (statements text) (length (lines text) + 1)

-- it is the text's sessions
abbrev pub TextsAreHeard : Type 0
TextsAreHeard = (p : PlanValue) (text : List ℕ) (xs : List ProgramValue) → sessions_of p text ≡ Ok xs → heard_of p text ≡ map Came xs

-- what is told is sessions, and then this fault
pub record TellsFirst (told : List Told) (f : SessionRefusal) : Type 0 where
  pub sessions : List ProgramValue
  pub others : List Told
  pub are : told ≡ map Came sessions ++ Faulty f ∷ others

-- what is told begins with as many sessions as a text has at most
pub record TellsMany (told : List Told) : Type 0 where
  pub sessions : List ProgramValue
  pub others : List Told
  pub are : told ≡ map Came sessions ++ others
  pub many : most_sessions ≤ length sessions

-- a text that is refused, but not for its length: its first fault is told as that of the stream, where it has no more sessions before than a text may have
abbrev pub FirstFaultsAreTold : Type 0
FirstFaultsAreTold = (p : PlanValue) (text : List ℕ) (f : SessionRefusal) → length text ≤ most_text → sessions_of p text ≡ Err f
    → TellsFirst (heard_of p text) f ⊎ TellsMany (heard_of p text)

-- A stream that is cut where a line begins with `session`: each part is heard by itself, and whatever came before it.
abbrev pub SessionsStandAlone : Type 0
SessionsStandAlone = (p : PlanValue) (before : List (ℕ × List ℕ)) (line : ℕ × List ℕ) (after : List (ℕ × List ℕ)) (n : ℕ) → begins_session line.1 ≡ true
    → heard p (before ++ line ∷ after) n ≡ heard p before line.0 ++ heard p (line ∷ after) n

-- after a fault nothing is told up to the next line that begins with `session`
abbrev pub FaultsAreToldOnce : Type 0
FaultsAreToldOnce = (p : PlanValue) (ls : List (ℕ × List ℕ)) → All (λ (l : ℕ × List ℕ). begins_session l.1 ≡ false) ls
    → heard_on p passing_over ls ≡ []

-- what a line leaves closed, where nothing was: one session at most, and none where it begins one
pub record ClosesOne (line : List ℕ) (y : Reading) : Type 0 where
  pub few : length y.done ≤ 1
  pub opening : begins_session line ≡ true → y.done ≡ []

-- so it is of each line that is taken
abbrev pub LinesCloseOne : Type 0
LinesCloseOne = (p : PlanValue) (x y : Reading) (line : List ℕ) → x.done ≡ [] → take_line p x line ≡ Ok y → ClosesOne line y
