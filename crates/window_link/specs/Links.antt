-- One end of a link: the frames that it makes, and what it answers to those that come.
use Rattle.std.specs.Prelude.{ℕ, ◌+◌, ◌-◌, Bool, not, ◌&&◌, ◌==◌, nat_lt, if◌then◌else◌, [], replicate, slice_get, Option, Some, None}
use Rattle.bottle_values.specs.Versions.{number_of}
use Rattle.bottle_values.specs.declared.version.Version.{Version}
use Rattle.frame_codec.specs.declared.message.Msg.{Msg}
use Rattle.frame_codec.specs.Frame.{Fields}
use Rattle.window_link.specs.declared.arrival.Arrival.{Arrival}
use Rattle.window_link.specs.declared.arrival.Arrival.TheVariants.{Acked}
use Rattle.window_link.specs.declared.fault.LinkFault.{LinkFault}
use Rattle.window_link.specs.declared.fault.LinkFault.TheVariants.{Stranger, WrongVersion, AckAhead}
use Rattle.window_link.specs.Windows.{Sending, Receiving, used, acknowledged, arrival, received}
use Rattle.window_link.specs.Limits.{most_kept}

-- one end: the run, the numbers of the two offices, both windows, and the version of the frames
pub record LinkState : Type 0 where
  pub run : ℕ
  pub me : ℕ
  pub peer : ℕ
  pub sending : Sending
  pub receiving : Receiving
  pub version : Version

-- an end where nothing waits: it used the numbers up to `sent`, all of them acknowledged, and took `taken` messages
abbrev pub resumed : ℕ → ℕ → ℕ → ℕ → ℕ → Version → LinkState
resumed run me peer sent taken version =
    record { run = run; me = me; peer = peer; sending = record { acked = sent; waiting = [] }; receiving = record { taken = taken; kept = replicate most_kept None }; version = version }

-- ---- frames that it makes

-- each has the count of the moment in which it is made
abbrev pub frame_with : LinkState → ℕ → Option Msg → Fields
frame_with l number msg =
    record { version = l.version; run = l.run; from = l.me; to = l.peer; number = number; count = l.receiving.taken; msg = msg }

-- the frame of the i-th waiting message, from 1
abbrev pub frame_of : LinkState → ℕ → Fields
frame_of l i = frame_with l (l.sending.acked + i) (slice_get l.sending.waiting (i - 1))

-- the frame that brings a count alone
abbrev pub ack_frame_of : LinkState → Fields
ack_frame_of l = frame_with l 0 None

-- ---- frames that come

-- the frame is of this run, and goes from the peer to this end
abbrev pub is_own : LinkState → Fields → Bool
is_own l f = f.run == l.run && f.from == l.peer && f.to == l.me

-- the frame is of this end's version
abbrev pub is_of_version : LinkState → Fields → Bool
is_of_version l f = number_of f.version == number_of l.version

-- what an end refuses of a frame, the first that applies
abbrev pub fault_of : LinkState → Fields → Option LinkFault
fault_of l f =
    if not (is_own l f) then Some Stranger
    else if not (is_of_version l f) then Some WrongVersion
    else if nat_lt (used l.sending) f.count then Some AckAhead else None

-- what it brings
abbrev pub brings : ℕ → ℕ → Option Msg → Arrival
brings taken number None = Acked
brings taken number (Some msg) = arrival taken number msg

abbrev pub received_from : Receiving → ℕ → Option Msg → Receiving
received_from r number None = r
received_from r number (Some msg) = received r number msg

-- what a frame brings
abbrev pub arrival_at : LinkState → Fields → Arrival
arrival_at l f = brings l.receiving.taken f.number f.msg

-- the end after it: the count is used whatever the frame brings
abbrev pub after_arrival : LinkState → Fields → LinkState
after_arrival l f =
    record { run = l.run; me = l.me; peer = l.peer; sending = acknowledged l.sending f.count; receiving = received_from l.receiving f.number f.msg; version = l.version }
