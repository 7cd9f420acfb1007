-- A message with a bottle that waits at an end.
use Rattle.std.specs.Prelude.{◌≡◌, ℕ, ◌+◌, slice_get, Option, None, Some}
use Rattle.bottle_values.specs.declared.Value.{Value}
use Rattle.frame_codec.specs.declared.message.Msg.{Msg}
use Rattle.frame_codec.specs.declared.message.Msg.TheVariants.{Bottle}
use Rattle.window_link.specs.Links.{LinkState}

-- a message of this number waits: the i-th that waits, from 0, has the number after i more than the acknowledged ones
abbrev pub Waits : LinkState → ℕ → Msg → Type 0
Waits l number msg = (i : ℕ) × (number ≡ l.sending.acked + 1 + i) × (slice_get l.sending.waiting i ≡ Some msg)

-- the number and the value of a message that waits with the record's bottle, or that there is none
abbrev pub TellsBottle : LinkState → ℕ → Option (ℕ × Value) → Type 0
TellsBottle l r (Some found) = Waits l found.0 (Bottle r found.1)
TellsBottle l r None = (number : ℕ) (value : Value) → Waits l number (Bottle r value) → ⊥
