-- What an office replies to what a frame was, and the frame that a reply tells.
use Rattle.std.specs.Prelude.{Option, Some, None}
use Rattle.frame_codec.specs.Frame.{Fields}
use Rattle.window_link.specs.declared.arrival.Arrival.{Arrival}
use Rattle.window_link.specs.declared.arrival.Arrival.TheVariants as arrival
use Rattle.office_journal.specs.declared.reply.Reply.{Reply}
use Rattle.office_journal.specs.declared.reply.Reply.TheVariants as reply

-- what is replied to a frame that was taken in
abbrev pub reply_to : Arrival → Reply
reply_to arrival.Acked = reply.Acked
reply_to (arrival.Fresh m) = reply.Taken
reply_to arrival.Repeat = reply.Repeat
reply_to arrival.Kept = reply.Kept
reply_to arrival.Early = reply.Early

-- the frame that a reply tells, if it tells one
abbrev pub frame_told : Reply → Option Fields
frame_told (reply.Frame f) = Some f
frame_told _ = None
