-- In which order an office takes its sessions, and what a withdrawn one leaves.
use Rattle.std.specs.Prelude.{◌≡◌, ℕ, ◌<◌, ◌≤◌, true, false, List, [], ◌∷◌, ◌++◌, map, None}
use Rattle.office_map.specs.PlanValue.{PlanValue}
use Rattle.session_meaning.specs.declared.ending.Outcome.{Outcome}
use Rattle.site_core.specs.declared.agendas.session.Session.{Session}
use Rattle.office_journal.specs.declared.event.Event.TheVariants.{Withdraw}
use Rattle.office_journal.specs.declared.event.Entry.{Entry}
use Rattle.site_core.specs.agendas.Agenda.{Agenda, Current, Idle, Gathering, Working}
use Rattle.site_core.specs.Offices.{Office, may_withdraw}
use Rattle.site_core.specs.Journals.{Site, office_of}
use Rattle.site_core.specs.Readers.{outcome_with}

abbrev pub current_tickets : Current → List ℕ
current_tickets Idle = []
current_tickets (Gathering s) = s.ticket ∷ []
current_tickets (Working s reads done) = s.ticket ∷ []

-- the tickets of the sessions that finished, in finishing order, then of the current one, and then of those that wait
abbrev pub tickets_in_turn : Agenda → List ℕ
tickets_in_turn a = map (λ (o : Outcome). o.ticket) a.outcomes ++ (current_tickets a.current ++ map (λ (s : Session). s.ticket) a.queue)

-- they rise, from more than k to at most n
abbrev pub Rise : ℕ → List ℕ → ℕ → Type 0
Rise k [] n = k ≤ n
Rise k (t ∷ ts) n = (k < t) × Rise t ts n

-- these rise, from 1 at least to the last that was given at most
abbrev pub GoInOrder : Agenda → Type 0
GoInOrder a = Rise 0 (tickets_in_turn a) a.tickets

-- so it is at the end of every journal: sessions finish in the order in which they were submitted
abbrev pub SessionsGoInOrder : Type 0
SessionsGoInOrder = (s : Site) → GoInOrder (office_of s).agenda

-- the session with the ticket has no outcome and may not be withdrawn, and the tickets that are still to come are greater
pub record IsWithdrawn (o : Office) (ticket : ℕ) : Type 0 where
  pub outcome : outcome_with o.agenda.outcomes ticket ≡ None
  pub again : may_withdraw o ticket ≡ false
  pub given : ticket ≤ o.agenda.tickets

-- so it is of a session that was withdrawn, however the journal goes on
abbrev pub WithdrawnForGood : Type 0
WithdrawnForGood = (plan : PlanValue) (me : ℕ) (es more : List Entry) (x : Entry) (ticket : ℕ) → x.event ≡ Withdraw ticket →
    may_withdraw (office_of (record { plan = plan; me = me; entries = es })) ticket ≡ true → IsWithdrawn (office_of (record { plan = plan; me = me; entries = es ++ x ∷ more })) ticket
