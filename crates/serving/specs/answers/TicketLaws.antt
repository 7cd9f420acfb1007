-- What a ticket promises.
use Rattle.std.specs.Prelude.{◌≡◌, ℕ, suc, List, [], ◌∷◌, ◌++◌, Ok, Some}
use Rattle.office_map.specs.PlanValue.{PlanValue}
use Rattle.session_meaning.specs.ProgramValue.{ProgramValue}
use Rattle.session_meaning.specs.declared.ending.Outcome.{Outcome}
use Rattle.site_core.specs.declared.agendas.session.Session.{Session}
use Rattle.office_journal.specs.declared.event.Event.TheVariants.{Submit}
use Rattle.office_journal.specs.declared.event.Entry.{Entry}
use Rattle.office_journal.specs.declared.reply.Reply.TheVariants.{Ticket}
use Rattle.site_core.specs.Journals.{Site, IsLegal, Steps, office_of}
use Rattle.site_core.specs.Readers.{outcome_with}
use Rattle.site_core.specs.Submitted.{submitted_in}
use Rattle.session_streams.specs.declared.requests.asked.Asked.TheVariants as ask
use Rattle.serving.specs.answers.Said.{Said}
use Rattle.serving.specs.answers.Answers.{Answers, known, session_under, tickets_of}

-- the tickets of these sessions are the numbers after k, one after the other, up to n
abbrev pub AreNumbered : ℕ → List Session → ℕ → Type 0
AreNumbered k [] n = k ≡ n
AreNumbered k (x ∷ xs) n = (x.ticket ≡ suc k) × AreNumbered (suc k) xs n

-- the sessions that an office submitted have its tickets, from 1 to the last that it gave
abbrev pub TicketsAreNumbered : Type 0
TicketsAreNumbered = (s : Site) → IsLegal s → AreNumbered 0 (submitted_in s.entries) (tickets_of s)

-- the ticket that is said of a session is the next, and the session has it from then on
pub record IsGiven (s s' : Site) (x : ProgramValue) (t : ℕ) : Type 0 where
  pub next : t ≡ suc (tickets_of s)
  pub under : session_under s' t ≡ Some x

-- every ticket that an office answers a session with is given so
abbrev pub TicketsAreGiven : Type 0
TicketsAreGiven = (s s' : Site) (tag : ℕ) (x : ProgramValue) (t : ℕ) → IsLegal s → Steps s tag (Submit x) (Ok (Ticket t)) s' → IsGiven s s' x t

-- an office whose journal has these entries
abbrev pub office_at : PlanValue → ℕ → List Entry → Site
office_at plan me es = record { plan = plan; me = me; entries = es }

-- Of a session that has a ticket, where the journal goes on: it keeps it; asked for again under it nothing is submitted, and what is said is what became of that one session; and how it ended, once it has, stays.
pub record IsSafe (plan : PlanValue) (me : ℕ) (es more : List Entry) (t : ℕ) (x : ProgramValue) : Type 0 where
  pub keeps : session_under (office_at plan me (es ++ more)) t ≡ Some x
  pub again : (tag : ℕ) (said : Said) (s' : Site) → Answers tag (office_at plan me (es ++ more)) (ask.Numbered t x) said s' → (s' ≡ office_at plan me (es ++ more)) × (said ≡ known (office_at plan me (es ++ more)) t)
  pub stays : (o : Outcome) → outcome_with (office_of (office_at plan me es)).agenda.outcomes t ≡ Some o → outcome_with (office_of (office_at plan me (es ++ more))).agenda.outcomes t ≡ Some o

-- What stood of a journal begins what stands later, in this life of the office or the next. So a client that lost its line asks again, and its session is done once.
abbrev pub TicketsAreSafe : Type 0
TicketsAreSafe = (plan : PlanValue) (me : ℕ) (es more : List Entry) (t : ℕ) (x : ProgramValue) → IsLegal (office_at plan me (es ++ more)) → session_under (office_at plan me es) t ≡ Some x → IsSafe plan me es more t x
