-- What looking for a ticket says.
use Rattle.std.specs.Prelude.{◌≡◌, ◌≢◌, ◌++◌, ◌==◌, if◌then◌else◌, ℕ, [], ◌∷◌, Bool, true, false, List, Option, Some, None, Err}
use Rattle.session_meaning.specs.ProgramValue.{ProgramValue}
use Rattle.office_journal.specs.declared.event.Event.{Event}
use Rattle.office_journal.specs.declared.event.Event.TheVariants.{Submit}
use Rattle.office_journal.specs.declared.event.Entry.{Entry}
use Rattle.office_journal.specs.declared.reply.Reply.{Reply}
use Rattle.office_journal.specs.declared.reply.Reply.TheVariants.{Ticket}
use Rattle.office_journal.specs.declared.reply.Refusal.TheVariants as refusal
use Rattle.site_core.specs.Journals.{Site, Steps}
use Rattle.serving.specs.declared.answers.answering.Again.{Again}
use Rattle.serving.specs.declared.answers.answering.Again.TheVariants as again
use Rattle.session_reports.specs.declared.form.forms.Form.{Form}
use Rattle.serving.specs.answers.Said.{Said, said_as}
use Rattle.serving.specs.answers.Answers.{SaysTicket, session_in}

-- the session that one entry submits under this ticket
abbrev pub session_by : ℕ → Option Entry → Option ProgramValue
session_by t None = None
session_by t (Some e) = session_in t (e ∷ [])

-- the same, of an event and its reply
abbrev pub submitted_as : ℕ → Event → Reply → Option ProgramValue
submitted_as t (Submit p) (Ticket n) = if n == t then Some p else None
submitted_as t e r = None

-- which session has a ticket: the same as this one, another, or none
abbrev pub IsAgain : Option ProgramValue → ProgramValue → Again → Type 0
IsAgain given x again.Same = given ≡ Some x
IsAgain given x again.Other = (y : ProgramValue) × (given ≡ Some y) × (y ≢ x)
IsAgain given x again.Never = given ≡ None

-- a session is submitted, and that is said; or the queue is full
abbrev pub Submitted : Form → ℕ → Site → ProgramValue → Bool → Site → List ℕ → List ℕ → Type 0
Submitted form tag s x true s' old new = (said : Said) × SaysTicket tag s x said s' × (new ≡ old ++ said_as form s.plan said)
Submitted form tag s x false s' old new = Steps s tag (Submit x) (Err refusal.QueueFull) s' × (new ≡ old)
