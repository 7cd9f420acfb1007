-- The entries that a journal shows, each of which borrows the program that it has; and parts of their events.
use Rattle.std.specs.Prelude.{◌≡◌, Option, Some, None}
use Rattle.frame_codec.specs.Frame.{Fields}
use Rattle.office_journal.specs.declared.event.Event.{Event}
use Rattle.office_journal.specs.declared.event.Event.TheVariants as event
use Rattle.office_journal.specs.declared.event.Entry.{Entry}
use Rattle.office_journal.specs.declared.event.EventRef.{EventRef}
use Rattle.office_journal.specs.declared.event.EventRef.TheVariants as shown
use Rattle.office_journal.specs.declared.event.EventPart.{EventPart}
use Rattle.office_journal.specs.declared.event.EventPart.TheVariants as part
use Rattle.office_journal.specs.declared.event.EntryRef.{EntryRef}

-- the event that is shown
abbrev pub event_shown : EventRef → Event
event_shown (shown.Submit p) = event.Submit p.now
event_shown (shown.Do r) = event.Do r
event_shown (shown.Send v i) = event.Send v i
event_shown (shown.Took f) = event.Took f
event_shown (shown.Withdraw ticket) = event.Withdraw ticket

-- the entry that is shown
abbrev pub entry_shown : EntryRef → Entry
entry_shown e = record { tag = e.tag; event = event_shown e.event; reply = e.reply }

-- what an event is, but for the frame that came
abbrev pub IsPart : EventPart → Event → Type 0
IsPart (part.Submit p) e = e ≡ event.Submit p.now
IsPart (part.Do r) e = e ≡ event.Do r
IsPart (part.Send v i) e = e ≡ event.Send v i
IsPart part.Took e = (f : Fields) × (e ≡ event.Took f)
IsPart (part.Withdraw ticket) e = e ≡ event.Withdraw ticket

-- the frame that came, if one did
abbrev pub frame_taken : Event → Option Fields
frame_taken (event.Took f) = Some f
frame_taken _ = None
