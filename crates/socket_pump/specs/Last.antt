-- When a message was last sent, and when it is sent again. Times are in milliseconds.
use Rattle.std.specs.Prelude.{ℕ, ◌+◌, ◌*◌, ◌%◌, ◌≤◌, eqb, true, false, cond, if◌then◌else◌, min, get_or, Option, Some, None}
use Rattle.locked_office.specs.Calls.{Key}
use Rattle.socket_pump.specs.declared.last.Backoff.{Backoff}
use Rattle.socket_pump.specs.declared.last.Backoff.TheVariants.{Constant, Exponential}
use Rattle.socket_pump.specs.declared.last.Lasts.{Lasts}
use Rattle.socket_pump.specs.declared.last.LastSend.{LastSend}
use Rattle.socket_pump.specs.declared.last.Slot.{Slot}

abbrev pub no_slot : Slot
no_slot = record { number = 0; last = None }

abbrev pub place : ℕ → ℕ → ℕ
place v n = v * 18 + n % 18

abbrev pub read_slot : Slot → ℕ → Option LastSend
read_slot s n = cond (eqb s.number n) s.last None

-- Of the message n to v, as far as that is remembered: when it was last sent, how long it pauses since while v isn't heard, and whether v was heard since.
unfoldable pub last_of : Lasts → ℕ → ℕ → Option LastSend
last_of l v n = read_slot (get_or l.slots (place v n) no_slot) n

-- how long a message that was sent pauses: always 50; or 50 where its neighbour was heard since, else its own pause
abbrev pub pause_by : Backoff → LastSend → ℕ
pause_by Constant s = 50
pause_by Exponential s = if s.heard then 50 else s.pause

-- it was never sent, or its pause is over
abbrev pub IsDue : Backoff → Option LastSend → ℕ → Type 0
IsDue how None now = Unit {0}
IsDue how (Some s) now = s.at + pause_by how s ≤ now

-- how long it pauses from now on, while its neighbour isn't heard: always 50; or 50 where it is new or its neighbour was heard since it was last sent, else twice as long as before, and at most 5000
abbrev pub next_pause : Backoff → Option LastSend → ℕ
next_pause Constant before = 50
next_pause Exponential None = 50
next_pause Exponential (Some s) = if s.heard then 50 else min (2 * s.pause) 5000

-- what is remembered of a message that is sent now, where that was remembered of it
abbrev pub sent_now : Backoff → Option LastSend → ℕ → LastSend
sent_now how before now = record { at = now; pause = next_pause how before; heard = false }

-- its neighbour was heard: what is remembered of a message that was sent, or that it wasn't
abbrev pub heard_since : Option LastSend → Option LastSend
heard_since None = None
heard_since (Some s) = Some (record s { heard = true })

-- whose pump it is, and when it last sent each message to each neighbour
pub record PumpView : Type 0 where
  pub key : Key
  pub lasts : Lasts
