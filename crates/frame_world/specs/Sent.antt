-- Which entry of which office tells a frame.
use Rattle.std.specs.Prelude.{◌≡◌, ℕ, List, [], ◌∷◌, get_or, slice_get, map, Option, Some}
use Rattle.std.specs.Option.{option_and_then}
use Rattle.frame_codec.specs.Frame.{Fields}
use Rattle.office_map.specs.PlanValue.{PlanValue}
use Rattle.office_journal.specs.declared.event.Entry.{Entry}
use Rattle.office_journal.specs.declared.reply.Reply.{Reply}
use Rattle.office_journal.specs.declared.reply.Reply.TheVariants as reply
use Rattle.office_journal.specs.Replies.{frame_told}
use Rattle.site_core.specs.Journals.{Site}
use Rattle.frame_world.specs.declared.sent.SentAt.{SentAt}
use Rattle.frame_world.specs.Worlds.{World, silent}

-- the frame that an entry tells
abbrev pub entry_tells : Entry → Option Fields
entry_tells x = frame_told x.reply

-- the frame that the entry of a journal at this place tells, if it is there and tells one
abbrev pub told_in : List Entry → ℕ → Option Fields
told_in entries n = option_and_then entry_tells (slice_get entries n)

-- the frame that is told there
abbrev pub told_at : PlanValue → List Site → SentAt → Option Fields
told_at plan sites m = told_in (get_or sites m.office (silent plan m.office)).entries m.entry

-- where the entry of an office tells a frame with its reply, if it does
abbrev pub sent_by : ℕ → ℕ → Reply → List SentAt
sent_by a n (reply.Frame f) = record { office = a; entry = n } ∷ []
sent_by a n _ = []

-- these entries tell the world's frames, one each, in the order in which they were sent
abbrev pub TellsFrames : World → List SentAt → Type 0
TellsFrames w sent = map (told_at w.plan w.sites) sent ≡ map Some w.frames
