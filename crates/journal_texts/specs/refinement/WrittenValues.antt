-- What is known of the values that are written, and of their words.
use Rattle.std.specs.Prelude.{◌≡◌, ◌<◌, ◌^◌, [], ◌∷◌, IsTrue, Some, Ok}
use Rattle.frame_codec.specs.Frame.{Fields}
use Rattle.office_map.specs.PlanValue.{PlanValue}
use Rattle.session_programs.specs.Program.{fits, text_under}
use Rattle.session_language.specs.Reading.{sessions_of}
use Rattle.office_journal.specs.declared.event.Event.{Event}
use Rattle.office_journal.specs.declared.event.Event.TheVariants as event
use Rattle.office_journal.specs.declared.event.Entry.{Entry}
use Rattle.journal_texts.specs.wording.Digits.{digits_of, frame_digits, bytes_in, IsFrameWord}
use Rattle.journal_texts.specs.wording.Replies.{ReplyReadsBack}
use Rattle.journal_texts.specs.declared.wording.digits.FrameWord.TheVariants.{Spelled}

-- a program that is submitted has a text under the plan
abbrev pub HasText : PlanValue → Event → Type 0
HasText p (event.Submit x) = IsTrue (fits p x)
HasText p (event.Do r) = Unit {0}
HasText p (event.Send v i) = Unit {0}
HasText p (event.Took f) = Unit {0}
HasText p (event.Withdraw t) = Unit {0}

abbrev pub FrameReadsBack : Fields → Type 0
FrameReadsBack f = IsFrameWord (frame_digits f) (Spelled f)

-- the digits of an event read back
abbrev pub EventReadsBack : PlanValue → Event → Type 0
EventReadsBack p (event.Submit x) = (bytes_in (digits_of (text_under p x)) ≡ Some (text_under p x)) × (sessions_of p (text_under p x) ≡ Ok (x ∷ []))
EventReadsBack p (event.Do r) = Unit {0}
EventReadsBack p (event.Send v i) = Unit {0}
EventReadsBack p (event.Took f) = FrameReadsBack f
EventReadsBack p (event.Withdraw t) = t < 2 ^ 32

abbrev pub EntryReadsBack : PlanValue → Entry → Type 0
EntryReadsBack p x = EventReadsBack p x.event × ReplyReadsBack x.reply
