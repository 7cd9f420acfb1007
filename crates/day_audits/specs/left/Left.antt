-- The sessions that an office has left.
use Rattle.std.specs.Prelude.{◌≡◌, ℕ, ◌==◌, ◌&&◌, Bool, not, is_none, List, [], ◌∷◌, ◌++◌, map, filter}
use Rattle.std.specs.List.{list_any}
use Rattle.session_meaning.specs.ProgramValue.{ProgramValue}
use Rattle.site_core.specs.declared.agendas.session.Session.{Session}
use Rattle.site_core.specs.agendas.Agenda.{Current, Idle, Gathering, Working}
use Rattle.office_journal.specs.declared.event.Event.{Event}
use Rattle.office_journal.specs.declared.event.Event.TheVariants as event
use Rattle.office_journal.specs.declared.event.Entry.{Entry}
use Rattle.site_core.specs.Offices.{Office}
use Rattle.site_core.specs.Journals.{Site, office_of, IsLegal}
use Rattle.site_core.specs.Submitted.{submitted_in}
use Rattle.site_core.specs.Readers.{outcome_with}

-- the current session, if there is one
abbrev pub current_session : Current → List Session
current_session Idle = []
current_session (Gathering s) = s ∷ []
current_session (Working s reads done) = s ∷ []

-- the current session of an office, and those that wait
abbrev pub left_at : Office → List Session
left_at o = current_session o.agenda.current ++ o.agenda.queue

-- the sessions that are left at the end of a journal
abbrev pub left_sessions : Site → List Session
left_sessions s = left_at (office_of s)

-- their programs
abbrev pub left_programs : Site → List ProgramValue
left_programs s = map (λ (x : Session). x.program) (left_sessions s)

-- ---- what was submitted and withdrawn

-- the ticket of the session that an event withdraws
abbrev pub withdrawn_by : Event → List ℕ
withdrawn_by (event.Withdraw t) = t ∷ []
withdrawn_by _ = []

-- the tickets of the sessions that these entries withdraw
abbrev pub withdrawn_in : List Entry → List ℕ
withdrawn_in [] = []
withdrawn_in (x ∷ xs) = withdrawn_by x.event ++ withdrawn_in xs

-- the session has no outcome, and wasn't withdrawn
abbrev pub is_left : Site → Session → Bool
is_left s x = is_none (outcome_with (office_of s).agenda.outcomes x.ticket) && not (list_any (λ t. x.ticket == t) (withdrawn_in s.entries))

-- of the sessions that were submitted those are left that have neither finished nor been withdrawn, each once, in the order in which they were submitted
abbrev pub NothingIsLostOrTwice : Type 0
NothingIsLostOrTwice = (s : Site) → IsLegal s → left_sessions s ≡ filter (is_left s) (submitted_in s.entries)
