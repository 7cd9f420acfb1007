-- Laws of what a client asks.
use Rattle.std.specs.Prelude.{◌≡◌, ◌≤◌, ◌+◌, ℕ, List, [], ◌++◌, length, All, true}
use Rattle.text_lines.specs.Text.{lines, statements}
use Rattle.office_map.specs.PlanValue.{PlanValue}
use Rattle.session_language.specs.Limits.{most_text}
use Rattle.session_streams.specs.declared.requests.asked.Asked.{Asked}
use Rattle.session_streams.specs.declared.requests.asked.Asked.TheVariants.{Session, Numbered, Look, Misread}
use Rattle.session_streams.specs.requests.Requests.{Ticket, TheTicket, Asking, quiet, ask, ask_all, given_up, waits}
use Rattle.session_streams.specs.requests.Bytes.{Taking, taken, asked_by}

-- bytes that come in two parts
pub record AreOne (p : PlanValue) (me : ℕ) (t : Taking) (xs ys : List ℕ) : Type 0 where
  pub stands : (taken p me t (xs ++ ys)).0 ≡ (taken p me (taken p me t xs).0 ys).0
  pub asked : (taken p me t (xs ++ ys)).1 ≡ (taken p me t xs).1 ++ (taken p me (taken p me t xs).0 ys).1

-- parts ask for what the whole asks for
abbrev pub PartsAreOne : Type 0
PartsAreOne = (p : PlanValue) (me : ℕ) (t : Taking) (xs ys : List ℕ) → AreOne p me t xs ys

-- a text that isn't too long asks for what its lines ask for, in order; and where it ends, what is open is given up
abbrev pub TextsAreAsked : Type 0
TextsAreAsked = (p : PlanValue) (me : ℕ) (text : List ℕ) → length text ≤ most_text
    → asked_by p me text ≡ (ask_all p me quiet (statements text)).1 ++ given_up (1 + length (lines text)) (ask_all p me quiet (statements text)).0

-- it is no session without a ticket, and one that is asked for has this
abbrev pub IsUnder : Ticket → Asked → Type 0
IsUnder k (Session x) = ⊥
IsUnder k (Numbered t x) = k ≡ TheTicket t
IsUnder k (Look r) = Unit {0}
IsUnder k (Misread f) = Unit {0}

-- So is whatever a line asks for while a ticket waits, where no session is closed that wasn't told.
abbrev pub TicketsKeepTheirSessions : Type 0
TicketsKeepTheirSessions = (p : PlanValue) (me : ℕ) (a : Asking) (l : ℕ × List ℕ) → waits a.ticket ≡ true → a.stream.reading.done ≡ [] → All (IsUnder a.ticket) (ask p me a l).1
