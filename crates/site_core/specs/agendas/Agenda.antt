-- The sessions of an office: those that wait, the current one, and how those ended that finished.
use Rattle.std.specs.Prelude.{ℕ, ◌+◌, Bool, true, false, not, nat_le, ◌==◌, ◌&&◌, is_some, List, [], ◌∷◌, ◌++◌, length, filter, Option, None, Some, option_map}
use Rattle.std.specs.List.{list_any}
use Rattle.bottle_values.specs.declared.Value.{Value}
use Rattle.bottle_values.specs.Maps.{reads_of}
use Rattle.session_meaning.specs.declared.ending.Ending.{Ending}
use Rattle.session_meaning.specs.declared.ending.Outcome.{Outcome}
use Rattle.session_meaning.specs.ProgramValue.{ProgramValue}
use Rattle.session_programs.specs.measures.Needs.{needs_of}
use Rattle.session_machine.specs.Pieces.{ending_after}
use Rattle.site_core.specs.declared.agendas.session.Session.{Session}
use Rattle.site_core.specs.agendas.Limits.{most_unfinished, longest_piece}

-- how far an office is with its current session: it has none, or one that waits for its bottles, or one that works on
-- these values of its records and has done so many instructions
pub data Current : Type 0 where
  Idle : Current
  Gathering : (s : Session) → Current
  Working : (s : Session) (reads : List (ℕ × Value)) (done : ℕ) → Current

-- An office's sessions: those that wait, how many tickets were given, the current one, and the outcomes in finishing
-- order.
pub record Agenda : Type 0 where
  pub queue : List Session
  pub tickets : ℕ
  pub current : Current
  pub outcomes : List Outcome

-- no session was submitted
abbrev pub empty : Agenda
empty = record { queue = []; tickets = 0; current = Idle; outcomes = [] }

-- ---- submitting

abbrev pub unfinished_current : Current → ℕ
unfinished_current Idle = 0
unfinished_current (Gathering s) = 1
unfinished_current (Working s reads done) = 1

-- how many sessions are submitted and unfinished: those that wait, and the current one
abbrev pub unfinished : Agenda → ℕ
unfinished a = unfinished_current a.current + length a.queue

-- as many are unfinished as may be
abbrev pub is_full : Agenda → Bool
is_full a = nat_le most_unfinished (unfinished a)

-- the session waits, with the next ticket
abbrev pub submitted : Agenda → ProgramValue → Agenda
submitted a p = record {
  queue = a.queue ++ record { ticket = a.tickets + 1; program = p } ∷ [];
  tickets = a.tickets + 1;
  current = a.current;
  outcomes = a.outcomes;
}

-- ---- withdrawing

-- the session with the ticket waits
abbrev pub is_waiting : List Session → ℕ → Bool
is_waiting queue ticket = list_any (λ (s : Session). s.ticket == ticket) queue

-- it is the current one, and waits for its bottles
abbrev pub is_gathering : Current → ℕ → Bool
is_gathering Idle ticket = false
is_gathering (Gathering s) ticket = s.ticket == ticket
is_gathering (Working s reads done) ticket = false

-- all that wait but that one
abbrev pub without_waiting : Agenda → ℕ → Agenda
without_waiting a ticket = record { queue = filter (λ (s : Session). not (s.ticket == ticket)) a.queue; tickets = a.tickets; current = a.current; outcomes = a.outcomes }

-- ---- the current session

-- what the first waiting session needs, if one waits
abbrev pub first_needs : List Session → Option (List ℕ)
first_needs [] = None
first_needs (s ∷ rest) = Some (needs_of s.program.body)

-- the first waiting session becomes the current one
abbrev pub started : Agenda → List Session → Agenda
started a [] = a
started a (s ∷ rest) = record { queue = rest; tickets = a.tickets; current = Gathering s; outcomes = a.outcomes }

-- the current session, where it waits for its bottles
abbrev pub gathering : Current → Option Session
gathering Idle = None
gathering (Gathering s) = Some s
gathering (Working s reads done) = None

-- its work begins on these values
abbrev pub begun : (ℕ → Value) → Current → Current
begun values Idle = Idle
begun values (Gathering s) = Working s (reads_of (needs_of s.program.body) values) 0
begun values (Working s reads done) = Working s reads done

-- how it ended, if its work has ended
abbrev pub ending_of : Current → Option Ending
ending_of Idle = None
ending_of (Gathering s) = None
ending_of (Working s reads done) = ending_after s.program reads done

abbrev pub is_working : Current → Bool
is_working Idle = false
is_working (Gathering s) = false
is_working (Working s reads done) = true

-- whether there is work to do, and a piece has a size that is allowed
abbrev pub may_work : Current → ℕ → Bool
may_work c n = is_working c && (not (is_some (ending_of c)) && (nat_le 1 n && nat_le n longest_piece))

-- so many instructions more are done, where it works
abbrev pub worked : ℕ → Current → Current
worked n Idle = Idle
worked n (Gathering s) = Gathering s
worked n (Working s reads done) = Working s reads (done + n)

-- what it wrote, if its work has ended
abbrev pub writes_of : Current → Option (List (ℕ × Value))
writes_of c = option_map (λ (e : Ending). e.writes) (ending_of c)

-- its outcome, if its work has ended
abbrev pub outcome_as : ℕ → ℕ → Option Ending → List Outcome
outcome_as me ticket None = []
outcome_as me ticket (Some e) = record { office = me; ticket = ticket; ending = e } ∷ []

abbrev pub outcome_of : ℕ → Current → List Outcome
outcome_of me Idle = []
outcome_of me (Gathering s) = []
outcome_of me (Working s reads done) = outcome_as me s.ticket (ending_after s.program reads done)

-- with this one as the current session
abbrev pub with_current : Agenda → Current → Agenda
with_current a c = record { queue = a.queue; tickets = a.tickets; current = c; outcomes = a.outcomes }

-- the current session is over, and its outcome is the last
abbrev pub finished : ℕ → Agenda → Agenda
finished me a = record { queue = a.queue; tickets = a.tickets; current = Idle; outcomes = a.outcomes ++ outcome_of me a.current }
