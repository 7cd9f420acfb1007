-- What an office answers to what is asked, and whether it submits a session for it.
use Rattle.std.specs.Prelude.{◌≡◌, ◌≢◌, ◌⊎◌, ◌==◌, ◌++◌, ℕ, suc, Bool, true, false, List, find, Option, Some, None, option_map, Result, Ok, Err}
use Rattle.bottle_values.specs.declared.Value.{Value}
use Rattle.office_map.specs.PlanValue.{peer}
use Rattle.session_meaning.specs.ProgramValue.{ProgramValue}
use Rattle.session_meaning.specs.declared.ending.Outcome.{Outcome}
use Rattle.site_core.specs.declared.agendas.session.Session.{Session}
use Rattle.office_journal.specs.declared.event.Event.TheVariants.{Submit}
use Rattle.office_journal.specs.declared.event.Entry.{Entry}
use Rattle.office_journal.specs.declared.reply.Reply.{Reply}
use Rattle.office_journal.specs.declared.reply.Reply.TheVariants.{Ticket}
use Rattle.office_journal.specs.declared.reply.Refusal.{Refusal}
use Rattle.office_journal.specs.declared.reply.Refusal.TheVariants as refusal
use Rattle.site_core.specs.Journals.{Site, Steps, office_of}
use Rattle.site_core.specs.Readers.{outcome_with}
use Rattle.site_core.specs.Submitted.{submitted_in}
use Rattle.session_streams.specs.declared.requests.asked.Asked.{Asked}
use Rattle.session_streams.specs.declared.requests.asked.Asked.TheVariants as ask
use Rattle.serving.specs.declared.answers.lack.Lack.{Lack}
use Rattle.serving.specs.declared.answers.lack.Lack.TheVariants.{JournalFull, Memory}
use Rattle.session_reports.specs.declared.form.forms.Form.{Form}
use Rattle.serving.specs.answers.Said.{Said, Taken, Finished, Pending, OtherSession, TicketAhead, NotOurs, Here, Away, Unread, said_as}

-- ---- what an office knows

-- the session that has this ticket, among those that these entries submit
abbrev pub session_in : ℕ → List Entry → Option ProgramValue
session_in t es = option_map (λ (x : Session). x.program) (find (λ (x : Session). x.ticket == t) (submitted_in es))

-- the session of an office that has this ticket
abbrev pub session_under : Site → ℕ → Option ProgramValue
session_under s t = session_in t s.entries

-- how many tickets the office has given
abbrev pub tickets_of : Site → ℕ
tickets_of s = (office_of s).agenda.tickets

-- how the session with this ticket ended, or that it hasn't
abbrev pub said_of : ℕ → Option Outcome → Said
said_of t None = Pending t
said_of t (Some o) = Finished o

abbrev pub known : Site → ℕ → Said
known s t = said_of t (outcome_with (office_of s).agenda.outcomes t)

-- the value of a record, where its bottle is here; else the neighbour with which it is shared
abbrev pub said_value : Site → ℕ → Option Value → Said
said_value s r None = Away r (peer s.plan s.me r)
said_value s r (Some v) = Here r v

abbrev pub look : Site → ℕ → Said
look s r = said_value s r ((office_of s).pairs.drinker.bottle r)

-- ---- answers

-- the session is submitted, and its ticket is said; or it is another office's
abbrev pub SaysTicket : ℕ → Site → ProgramValue → Said → Site → Type 0
SaysTicket tag s x said s' =
    ((t : ℕ) × Steps s tag (Submit x) (Ok (Ticket t)) s' × (said ≡ Taken t)) ⊎ (Steps s tag (Submit x) (Err refusal.NotOurs) s' × (said ≡ NotOurs))

-- what is said where this session is asked for again under a ticket, which this one has, if one has it
abbrev pub SaysAgain : Site → ℕ → ProgramValue → Option ProgramValue → Said → Type 0
SaysAgain s t x None said = said ≡ TicketAhead
SaysAgain s t x (Some y) said = ((y ≡ x) × (said ≡ known s t)) ⊎ ((y ≢ x) × (said ≡ OtherSession))

-- What an office says to what is asked, where it stands so, and where it stands then. A session under a ticket is submitted where that is the next ticket; under any other nothing is submitted.
abbrev pub Answers : ℕ → Site → Asked → Said → Site → Type 0
Answers tag s (ask.Session x) said s' = SaysTicket tag s x said s'
Answers tag s (ask.Numbered t x) said s' =
    ((t ≡ suc (tickets_of s)) × SaysTicket tag s x said s') ⊎ ((t ≢ suc (tickets_of s)) × (s' ≡ s) × SaysAgain s t x (session_under s t) said)
Answers tag s (ask.Look r) said s' = (s' ≡ s) × (said ≡ look s r)
Answers tag s (ask.Misread f) said s' = (s' ≡ s) × (said ≡ Unread f)

-- for this question the office would submit this session: it has no ticket of its own, or the next
abbrev pub Submits : Site → Asked → ProgramValue → Type 0
Submits s (ask.Session x) y = x ≡ y
Submits s (ask.Numbered t x) y = (x ≡ y) × (t ≡ suc (tickets_of s))
Submits s (ask.Look r) y = ⊥
Submits s (ask.Misread f) y = ⊥

-- it would, and its queue is full
abbrev pub IsFull : ℕ → Site → Asked → Site → Type 0
IsFull tag s asked s' = (x : ProgramValue) × Submits s asked x × Steps s tag (Submit x) (Err refusal.QueueFull) s'

-- it is answered by one line more; or it isn't, since the queue is full
abbrev pub Answered : Form → ℕ → Site → Asked → Bool → Site → List ℕ → List ℕ → Type 0
Answered form tag s asked true s' old new = (said : Said) × Answers tag s asked said s' × (new ≡ old ++ said_as form s.plan said)
Answered form tag s asked false s' old new = IsFull tag s asked s' × (new ≡ old)

-- There is no room for a session that it would submit; or memory ran out, before it was submitted or after it.
abbrev pub Lacks : ℕ → Site → Asked → Lack → Site → Type 0
Lacks tag s asked JournalFull s' = (x : ProgramValue) × Submits s asked x × Steps s tag (Submit x) (Err refusal.JournalFull) s'
Lacks tag s asked Memory s' = (s' ≡ s) ⊎ ((x : ProgramValue) × Submits s asked x × (r : Result Reply Refusal) × Steps s tag (Submit x) r s')
