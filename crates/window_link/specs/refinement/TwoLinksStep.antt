-- One event as the two links see it, between the functions that carry it out.
use Rattle.std.specs.Prelude.{◌≡◌, ℕ, zero, suc, ◌+◌, ◌&&◌, nat_lt, if◌then◌else◌, List, [], ◌∷◌, ◌++◌, length, Option, Some, None, Result, OnErr, IfOk, IsTrue}
use Rattle.std.specs.declared.alloc.AllocError.{AllocError}
use Rattle.frame_codec.specs.declared.message.Msg.{Msg}
use Rattle.window_link.specs.declared.laws.event.End.{End}
use Rattle.window_link.specs.declared.laws.event.End.TheVariants.{Left, Right}
use Rattle.window_link.specs.declared.laws.event.Posted.{Posted}
use Rattle.window_link.specs.declared.laws.event.LinkEvent.{LinkEvent}
use Rattle.window_link.specs.declared.laws.event.LinkEvent.TheVariants.{Queue, Make, Ack, Arrive}
use Rattle.window_link.specs.declared.laws.event.LinkReply.{LinkReply}
use Rattle.window_link.specs.declared.laws.event.LinkReply.TheVariants.{Idle, Queued, Made, Arrived}
use Rattle.frame_codec.specs.Frame.{Fields, carries}
use Rattle.window_link.specs.declared.arrival.Arrival.{Arrival}
use Rattle.window_link.specs.declared.arrival.Arrival.TheVariants.{Acked, Fresh, Repeat, Kept, Early}
use Rattle.window_link.specs.Windows.{Receiving, used, queued, next_kept, advanced}
use Rattle.window_link.specs.Links.{LinkState, frame_with, arrival_at, after_arrival}
use Rattle.window_link.specs.Streams.{other, nth}
use Rattle.window_link.specs.Two.{Ends, at, makes_frame}
use Rattle.window_link.specs.Limits.{most_waiting, most_kept, greatest}

abbrev pub ends : LinkState → LinkState → List Posted → Ends
ends left right frames = record { left = left; right = right; frames = frames }

abbrev pub with_link : Ends → End → LinkState → Ends
with_link t Left l = record { left = l; right = t.right; frames = t.frames }
with_link t Right l = record { left = t.left; right = l; frames = t.frames }

abbrev pub with_sending : LinkState → Msg → LinkState
with_sending l msg =
    record { run = l.run; me = l.me; peer = l.peer; sending = queued l.sending msg; receiving = l.receiving; version = l.version }

abbrev pub queue_step : LinkState → Msg → LinkReply × LinkState
queue_step l msg =
    if carries l.version msg && nat_lt (length l.sending.waiting) most_waiting && nat_lt (used l.sending) greatest
    then (Queued, with_sending l msg)
    else (Idle, l)

abbrev pub made : LinkState → End → ℕ → Option Msg → List Posted
made l e number msg = record { by = e; frame = frame_with l number msg } ∷ []

-- what a link posts of its i-th waiting message, and what it answers
abbrev pub made_of : LinkState → End → ℕ → Option Msg → LinkReply × List Posted
made_of l e i None = (Idle, [])
made_of l e i (Some msg) = (Made, made l e (l.sending.acked + i) (Some msg))

abbrev pub with_frames : Ends → LinkReply × List Posted → LinkReply × Ends
with_frames t m = (m.0, record { left = t.left; right = t.right; frames = t.frames ++ m.1 })

abbrev pub with_receiving : LinkState → Receiving → LinkState
with_receiving l r = record { run = l.run; me = l.me; peer = l.peer; sending = l.sending; receiving = r; version = l.version }

-- what is kept is taken up to the first gap, so many at most
abbrev pub followed : Option Msg → ℕ → Receiving → Receiving
followed None n r = r
followed (Some msg) zero r = r
followed (Some msg) (suc n) r = followed (next_kept (advanced r)) n (advanced r)

-- which follows a message that is taken
abbrev pub settled : Arrival → Receiving → Receiving
settled (Fresh msg) r = followed (next_kept r) most_kept r
settled Acked r = r
settled Repeat r = r
settled Kept r = r
settled Early r = r

abbrev pub after_taking : LinkState → Fields → LinkState
after_taking l f = with_receiving (after_arrival l f) (settled (arrival_at l f) (after_arrival l f).receiving)

abbrev pub arrive_step : Ends → Option Posted → LinkReply × Ends
arrive_step t None = (Idle, t)
arrive_step t (Some posted) =
    let d = other posted.by in
    (Arrived (arrival_at (at t d) posted.frame), with_link t d (after_taking (at t d) posted.frame))

abbrev pub step : Ends → LinkEvent → LinkReply × Ends
step t (Queue e msg) = ((queue_step (at t e) msg).0, with_link t e (queue_step (at t e) msg).1)
step t (Make e i) = with_frames t (made_of (at t e) e i (nth (at t e).sending.waiting i))
step t (Ack e) = with_frames t (Made, made (at t e) e 0 None)
step t (Arrive k) = arrive_step t (nth t.frames k)

-- where a growth was refused all is as it was
abbrev pub Steps : Ends → LinkEvent → Result LinkReply AllocError → Ends → Type 0
Steps old event result new =
    IfOk result (λ reply. (reply ≡ (step old event).0) × (new ≡ (step old event).1)) × OnErr result ((new ≡ old) × IsTrue (makes_frame event))
