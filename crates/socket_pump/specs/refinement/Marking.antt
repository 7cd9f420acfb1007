-- Of whom something was heard, as one datagram comes.
use Rattle.std.specs.Prelude.{◌≡◌, ℕ, ◌<◌, ◌⊎◌, Option, Result, Ok, Err}
use Rattle.frame_codec.specs.Frame.{Fields}
use Rattle.frame_codec.specs.declared.fault.FrameFault.{FrameFault}
use Rattle.socket_pump.specs.declared.last.LastSend.{LastSend}
use Rattle.socket_pump.specs.declared.last.Slot.{Slot}
use Rattle.socket_pump.specs.Last.{heard_since}

-- what was read is a frame of v
abbrev pub IsFrom : Result Fields FrameFault → ℕ → Type 0
IsFrom (Ok f) v = f.from ≡ v
IsFrom (Err fault) v = ⊥

-- what was read, and what is remembered of messages before and then: of those to who sent it, that it was heard since; of the others, what was
abbrev pub MarksRead : Result Fields FrameFault → (ℕ → ℕ → Option LastSend) → (ℕ → ℕ → Option LastSend) → Type 0
MarksRead read last then = (v n : ℕ) → v < 16 → (IsFrom read v × (then v n ≡ heard_since (last v n))) ⊎ ((IsFrom read v → ⊥) × (then v n ≡ last v n))

-- the same of a place
abbrev pub marked_slot : Slot → Slot
marked_slot s = record s { last = heard_since s.last }
