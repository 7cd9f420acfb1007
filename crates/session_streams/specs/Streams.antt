-- What is heard of lines that come one after another: the sessions, each at its closing `end`, and the faults, each with the
-- first line at which it is seen.
use Rattle.std.specs.Prelude.{ℕ, List, [], ◌∷◌, ◌++◌, map, Bool, true, false, Option, Some, None, Result, Ok, Err, if◌then◌else◌}
use Rattle.office_map.specs.PlanValue.{PlanValue}
use Rattle.session_meaning.specs.ProgramValue.{ProgramValue}
use Rattle.session_language.specs.declared.keyword.Keyword.{Keyword}
use Rattle.session_language.specs.declared.keyword.Keyword.TheVariants.{Session, Let, Set, Give, Require, If, Else, Repeat, End, Other}
use Rattle.session_language.specs.declared.fault.SessionRule.{SessionRule}
use Rattle.session_language.specs.declared.fault.SessionRule.TheVariants.{Syntax}
use Rattle.session_language.specs.declared.fault.SessionRefusal.{SessionRefusal}
use Rattle.session_language.specs.Lexer.{Piece, AWord, ASymbol, AQuoted, AStray, pieces_of}
use Rattle.session_language.specs.Form.{keyword_of}
use Rattle.session_language.specs.Reading.{Draft, Reading, nothing_read, take_line}

pub data Told : Type 0 where
  Came : (x : ProgramValue) → Told
  Faulty : (f : SessionRefusal) → Told

-- what was read, of which no session is closed that wasn't told; or after a fault that lines are passed over
pub record Listening : Type 0 where
  pub reading : Reading
  pub passing : Bool

-- before the first line
abbrev pub fresh : Listening
fresh = record { reading = nothing_read; passing = false }

-- after a fault
abbrev pub passing_over : Listening
passing_over = record { reading = nothing_read; passing = true }

-- the word that begins a session
abbrev pub is_session : Keyword → Bool
is_session Session = true
is_session Let = false
is_session Set = false
is_session Give = false
is_session Require = false
is_session If = false
is_session Else = false
is_session Repeat = false
is_session End = false
is_session Other = false

abbrev pub opens : List Piece → Bool
opens [] = false
opens (AWord w ∷ ps) = is_session (keyword_of w)
opens (ASymbol s ∷ ps) = false
opens (AQuoted bytes ∷ ps) = false
opens (AStray ∷ ps) = false

-- the first word of the line is `session`
abbrev pub begins_session : List ℕ → Bool
begins_session line = opens (pieces_of line)

-- a session that is open has no `end` before line n
abbrev pub unclosed : ℕ → Option Draft → List Told
unclosed n None = []
unclosed n (Some d) = Faulty (record { rule = Syntax; line = n }) ∷ []

-- what is told where another session begins at line n, or where that would be the next line and the stream ends
abbrev pub cut : ℕ → Reading → List Told
cut n x = unclosed n x.open_session

-- a line that is read: its sessions are told, or its fault
abbrev pub answered : ℕ → Result Reading SessionRule → Listening × List Told
answered n (Ok y) = (record { reading = record { done = []; open_session = y.open_session }; passing = false }, map Came y.done)
answered n (Err rule) = (passing_over, Faulty (record { rule = rule; line = n }) ∷ [])

abbrev pub read_on : PlanValue → Reading → ℕ × List ℕ → Listening × List Told
read_on p x l = answered l.0 (take_line p x l.1)

abbrev pub after_cut : List Told → Listening × List Told → Listening × List Told
after_cut told heard = (heard.0, told ++ heard.1)

-- one line with its number: where it begins a session it is read as the first of a stream
abbrev pub hear : PlanValue → Listening → ℕ × List ℕ → Listening × List Told
hear p s l =
    if begins_session l.1 then after_cut (cut l.0 s.reading) (read_on p nothing_read l)
    else if s.passing then (s, []) else read_on p s.reading l

-- lines in order: what is told of them, and where the stream stands then
abbrev pub heard_on : PlanValue → Listening → List (ℕ × List ℕ) → List Told
heard_on p s [] = []
heard_on p s (l ∷ ls) = (hear p s l).1 ++ heard_on p (hear p s l).0 ls

abbrev pub listening_after : PlanValue → Listening → List (ℕ × List ℕ) → Listening
listening_after p s [] = s
listening_after p s (l ∷ ls) = listening_after p (hear p s l).0 ls

-- Lines by themselves, after which the line with the number n would come.
abbrev pub heard : PlanValue → List (ℕ × List ℕ) → ℕ → List Told
heard p ls n = heard_on p fresh ls ++ cut n (listening_after p fresh ls).reading
