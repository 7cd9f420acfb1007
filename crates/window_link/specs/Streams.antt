-- What goes each way between two ends, told as whole lists, and what each event does to it.
use Rattle.std.specs.Prelude.{◌≡◌, ℕ, zero, suc, ◌+◌, ◌-◌, ◌≤◌, max, Bool, ◌&&◌, nat_lt, if◌then◌else◌, List, [], ◌∷◌, ◌++◌, length, drop, replicate, get_or, slice_get, Option, Some, None}
use Rattle.bottle_values.specs.declared.version.Version.{Version}
use Rattle.frame_codec.specs.declared.message.Msg.{Msg}
use Rattle.frame_codec.specs.Frame.{Fields, carries}
use Rattle.window_link.specs.declared.laws.event.End.{End}
use Rattle.window_link.specs.declared.laws.event.End.TheVariants.{Left, Right}
use Rattle.window_link.specs.declared.laws.event.Posted.{Posted}
use Rattle.window_link.specs.declared.laws.event.LinkEvent.{LinkEvent}
use Rattle.window_link.specs.declared.laws.event.LinkEvent.TheVariants.{Queue, Make, Ack, Arrive}
use Rattle.window_link.specs.declared.laws.event.LinkReply.{LinkReply}
use Rattle.window_link.specs.declared.laws.event.LinkReply.TheVariants.{Idle, Queued, Made, Arrived}
use Rattle.window_link.specs.declared.arrival.Arrival.{Arrival}
use Rattle.window_link.specs.declared.arrival.Arrival.TheVariants.{Acked, Fresh, Repeat, Kept, Early}
use Rattle.window_link.specs.Windows.{arrival, kept_with, kept_after}
use Rattle.window_link.specs.Links.{brings}
use Rattle.window_link.specs.Limits.{most_waiting, most_kept, greatest}

-- What goes one way: the messages that were sent, of which the k-th has the number k; those that
-- the other end took, in order; how many the sender knows to be taken; and what the other end keeps of the numbers after
-- the taken ones, first of the next.
pub record Stream : Type 0 where
  pub sent : List Msg
  pub taken : List Msg
  pub acked : ℕ
  pub kept : List (Option Msg)

-- what waits for acknowledgement: what was sent, without the acknowledged beginning
abbrev pub waiting : Stream → List Msg
waiting s = drop s.acked s.sent

-- What is taken begins what was sent; what is acknowledged was taken; at most 18 wait; what is kept of a number was sent
-- with it.
pub record IsLawful (s : Stream) : Type 0 where
  pub ahead : List Msg
  pub begins : s.sent ≡ s.taken ++ ahead
  pub acknowledged : s.acked ≤ length s.taken
  pub few : length (waiting s) ≤ most_waiting
  pub kept : (k : ℕ) (msg : Msg) → get_or s.kept k None ≡ Some msg → slice_get s.sent (length s.taken + k) ≡ Some msg

-- two ends: the run's number, the offices' numbers, what each end sends, every frame that was made, and the version of all of them
pub record Pair : Type 0 where
  pub run : ℕ
  pub office : End → ℕ
  pub stream : End → Stream
  pub frames : List Posted
  pub version : Version

abbrev pub other : End → End
other Left = Right
other Right = Left

-- a function of the ends with one value changed
abbrev pub with_end : {X : Type 0} → (End → X) → End → X → End → X
with_end f Left x Left = x
with_end f Left x Right = f Right
with_end f Right x Left = f Left
with_end f Right x Right = x

abbrev pub with_stream : Pair → End → Stream → Pair
with_stream p e s =
    record { run = p.run; office = p.office; stream = with_end p.stream e s; frames = p.frames; version = p.version }

-- the k-th of a list, from 1
abbrev pub nth : {X : Type 0} → List X → ℕ → Option X
nth xs zero = None
nth xs (suc k) = slice_get xs k

-- ---- the events

-- a message can be sent where the frames can carry it, and there is room and a number for it
abbrev pub can_send : Version → Stream → Msg → Bool
can_send version s msg = carries version msg && nat_lt (length (waiting s)) most_waiting && nat_lt (length s.sent) greatest

abbrev pub send : Pair → End → Msg → LinkReply × Pair
send p e msg =
    let s = p.stream e in
    if can_send p.version s msg
    then (Queued, with_stream p e (record { sent = s.sent ++ msg ∷ []; taken = s.taken; acked = s.acked; kept = s.kept }))
    else (Idle, p)

-- a frame of that end has the count of what the end has taken by now
abbrev pub post : Pair → End → ℕ → Option Msg → LinkReply × Pair
post p e number msg =
    let frame : Fields = record { version = p.version; run = p.run; from = p.office e; to = p.office (other e); number = number; count = length (p.stream (other e)).taken; msg = msg } in
    (Made, record { run = p.run; office = p.office; stream = p.stream; frames = p.frames ++ record { by = e; frame = frame } ∷ []; version = p.version })

abbrev pub post_waiting : Pair → End → ℕ → Option Msg → LinkReply × Pair
post_waiting p e i None = (Idle, p)
post_waiting p e i (Some msg) = post p e ((p.stream e).acked + i) (Some msg)

-- the sender learns the count
abbrev pub learned : Stream → ℕ → Stream
learned s count = record { sent = s.sent; taken = s.taken; acked = max s.acked count; kept = s.kept }

-- the next message is taken
abbrev pub took_next : Stream → Msg → Stream
took_next s msg = record { sent = s.sent; taken = s.taken ++ msg ∷ []; acked = s.acked; kept = kept_after s.kept }

-- and after it what is kept, up to the first gap; so many at most
abbrev pub followed : Option Msg → ℕ → Stream → Stream
followed None n s = s
followed (Some msg) zero s = s
followed (Some msg) (suc n) s = followed (get_or (took_next s msg).kept 0 None) n (took_next s msg)

-- a message is taken where its number is the next, with those that follow, and kept where it comes up to 18 past the taken ones
abbrev pub took_by : Stream → ℕ → Msg → Arrival → Stream
took_by s number msg (Fresh m) = followed (get_or (took_next s m).kept 0 None) most_kept (took_next s m)
took_by s number msg Kept = record { sent = s.sent; taken = s.taken; acked = s.acked; kept = kept_with s.kept (number - (length s.taken + 1)) msg }
took_by s number msg Acked = s
took_by s number msg Repeat = s
took_by s number msg Early = s

abbrev pub took : Stream → ℕ → Option Msg → Stream
took s number None = s
took s number (Some msg) = took_by s number msg (arrival (length s.taken) number msg)

abbrev pub deliver : Pair → Option Posted → LinkReply × Pair
deliver p None = (Idle, p)
deliver p (Some posted) =
    let f = posted.frame in
    let out = p.stream posted.by in
    let back = p.stream (other posted.by) in (
      Arrived (brings (length out.taken) f.number f.msg),
      with_stream (with_stream p (other posted.by) (learned back f.count)) posted.by (took out f.number f.msg),
    )

-- What each event does, and what is answered. After a message that is taken, the kept ones follow up to the first gap.
abbrev pub happens : Pair → LinkEvent → LinkReply × Pair
happens p (Queue e msg) = send p e msg
happens p (Make e i) = post_waiting p e i (nth (waiting (p.stream e)) i)
happens p (Ack e) = post p e 0 None
happens p (Arrive k) = deliver p (nth p.frames k)

-- ---- runs

abbrev pub empty : Stream
empty = record { sent = []; taken = []; acked = 0; kept = replicate most_kept None }

abbrev pub opening : ℕ → (End → ℕ) → Version → Pair
opening run office version = record { run = run; office = office; stream = λ e. empty; frames = []; version = version }

abbrev pub run_of : Pair → List LinkEvent → Pair
run_of p [] = p
run_of p (event ∷ events) = run_of (happens p event).1 events

-- Over every list of events, both ends are lawful.
abbrev pub StreamsStayLawful : Type 0
StreamsStayLawful =
    (run : ℕ) (office : End → ℕ) (version : Version) (events : List LinkEvent) (e : End) → IsLawful ((run_of (opening run office version) events).stream e)
