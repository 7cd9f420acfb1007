-- The tickets of the finished sessions. An office's tickets number the sessions that were submitted there, from 1.
use Rattle.std.specs.Prelude.{◌≡◌, ◌<◌, ◌==◌, ℕ, zero, suc, List, filter, slice_get, Option, None, Some, All, AllPairs}
use Rattle.session_meaning.specs.declared.ending.Outcome.{Outcome}
use Rattle.site_core.specs.declared.agendas.session.Session.{Session}
use Rattle.office_journal.specs.declared.event.Entry.{Entry}
use Rattle.site_core.specs.Submitted.{submitted_in}
use Rattle.frame_world.specs.Worlds.{World, Finished, site_at, office_at}
use Rattle.frame_world.specs.Headline.{outcomes}

-- the session that was submitted as the n-th, from 1
abbrev pub submitted_as : List Entry → ℕ → Option Session
submitted_as entries zero = None
submitted_as entries (suc n) = slice_get (submitted_in entries) n

-- a finished session, as it was submitted
abbrev pub session_of : Finished → Session
session_of f = record { ticket = f.outcome.ticket; program = f.program }

-- a finished session's office has it in its journal as the one of the ticket's number, and answered that ticket
abbrev pub HasItsTicket : World → Finished → Type 0
HasItsTicket w f = submitted_as (site_at w f.outcome.office).entries f.outcome.ticket ≡ Some (session_of f)

-- each finished session has the ticket that it got
abbrev pub HaveTheirTickets : World → Type 0
HaveTheirTickets w = All (HasItsTicket w) w.finished

abbrev pub IsBelow : Outcome → Outcome → Type 0
IsBelow x y = x.ticket < y.ticket

-- of two finished sessions of an office the one that finished earlier has the lower ticket
abbrev pub TicketsRise : World → Type 0
TicketsRise w = AllPairs (λ (x y : Outcome). x.office ≡ y.office → x.ticket < y.ticket) (outcomes w)

-- what an office tells of its finished sessions is what the list has of them, in the list's order
abbrev pub TellsEachOffice : World → Type 0
TellsEachOffice w = (a : ℕ) → filter (λ (o : Outcome). o.office == a) (outcomes w) ≡ (office_at w a).agenda.outcomes
