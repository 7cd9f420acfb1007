-- Which entry of a journal a packed one is.
use Rattle.std.specs.Prelude.{◌≡◌, ◌≢◌, ℕ, ◌<◌, true, false, List, [], length, Option, None, Some, slice_get}
use Rattle.session_meaning.specs.ProgramValue.{ProgramValue}
use Rattle.office_journal.specs.pages.Framed.{frame_in}
use Rattle.office_journal.specs.pages.Told.{Told}
use Rattle.office_journal.specs.declared.pages.kind.Kind.{Kind}
use Rattle.office_journal.specs.declared.pages.kind.Kind.TheVariants as kind
use Rattle.office_journal.specs.declared.rule.Rule.{Rule}
use Rattle.office_journal.specs.declared.rule.Rule.TheVariants as rule
use Rattle.office_journal.specs.declared.event.Event.{Event}
use Rattle.office_journal.specs.declared.event.Event.TheVariants as event
use Rattle.office_journal.specs.declared.event.Entry.{Entry}
use Rattle.office_journal.specs.declared.reply.Reply.{Reply}
use Rattle.office_journal.specs.declared.reply.Reply.TheVariants as reply

-- what stands beside the entries of a journal: the programs of sessions, and the texts that frames carry
pub record Beside : Type 0 where
  pub programs : List ProgramValue
  pub texts : List (List ℕ)

-- beside an entry that has neither
abbrev pub nothing : Beside
nothing = record { programs = []; texts = [] }

-- the session at that place. Each entry of a journal has its own; the other case is one that no journal has.
abbrev pub submitted_from : Option ProgramValue → Event
submitted_from (Some p) = event.Submit p
submitted_from None = event.Withdraw 0

-- the rule of that kind, with that neighbour, or with that record or size, where it has them
abbrev pub rule_by : Kind → ℕ → ℕ → Rule
rule_by kind.Start v which = rule.Start
rule_by kind.Hungry v which = rule.Hungry
rule_by kind.AskFork v which = rule.AskFork v
rule_by kind.GiveFork v which = rule.GiveFork v
rule_by kind.Eat v which = rule.Eat
rule_by kind.Leave v which = rule.Leave
rule_by kind.AskBottle v which = rule.AskBottle which
rule_by kind.GiveBottle v which = rule.GiveBottle which
rule_by kind.Drink v which = rule.Drink
rule_by kind.Work v which = rule.Work which
rule_by _ v which = rule.Finish

-- what happened, where this stands beside
abbrev pub event_by : Kind → Beside → Told → Event
event_by kind.Submitted b t = submitted_from (slice_get b.programs t.place)
event_by kind.Withdrew b t = event.Withdraw t.ticket
event_by kind.Sent b t = event.Send t.v t.i
event_by kind.Acked b t = event.Took (frame_in b.texts t)
event_by kind.Taken b t = event.Took (frame_in b.texts t)
event_by kind.Repeat b t = event.Took (frame_in b.texts t)
event_by kind.Kept b t = event.Took (frame_in b.texts t)
event_by kind.Early b t = event.Took (frame_in b.texts t)
event_by k b t = event.Do (rule_by k t.v t.which)

-- what was replied, where these texts stand beside
abbrev pub reply_by : Kind → List (List ℕ) → Told → Reply
reply_by kind.Submitted texts t = reply.Ticket t.ticket
reply_by kind.Sent texts t = reply.Frame (frame_in texts t)
reply_by kind.Acked texts t = reply.Acked
reply_by kind.Taken texts t = reply.Taken
reply_by kind.Repeat texts t = reply.Repeat
reply_by kind.Kept texts t = reply.Kept
reply_by kind.Early texts t = reply.Early
reply_by _ texts t = reply.Done

-- the entry
abbrev pub entry_in : Beside → Told → Entry
entry_in b t = record { tag = t.tag; event = event_by t.kind b t; reply = reply_by t.kind b.texts t }

-- its program stands beside, if it has one, and so does its text
pub record IsPlaced (b : Beside) (t : Told) : Type 0 where
  pub program : t.kind ≡ kind.Submitted → t.place < length b.programs
  pub text : t.has_text ≡ true → t.text < length b.texts

-- it has neither
pub record IsPlain (t : Told) : Type 0 where
  pub no_session : t.kind ≢ kind.Submitted
  pub no_text : t.has_text ≡ false

-- ---- kinds

-- the kind of a rule that was done
abbrev pub IsOfRule : Kind → Type 0
IsOfRule kind.Submitted = ⊥
IsOfRule kind.Withdrew = ⊥
IsOfRule kind.Sent = ⊥
IsOfRule kind.Acked = ⊥
IsOfRule kind.Taken = ⊥
IsOfRule kind.Repeat = ⊥
IsOfRule kind.Kept = ⊥
IsOfRule kind.Early = ⊥
IsOfRule _ = Unit {0}

-- the kind of a frame that came
abbrev pub IsOfArrival : Kind → Type 0
IsOfArrival kind.Acked = Unit {0}
IsOfArrival kind.Taken = Unit {0}
IsOfArrival kind.Repeat = Unit {0}
IsOfArrival kind.Kept = Unit {0}
IsOfArrival kind.Early = Unit {0}
IsOfArrival _ = ⊥
