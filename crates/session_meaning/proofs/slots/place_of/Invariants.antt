use Rattle.std.proofs.Common.{ℕ, ◌<◌, ◌≤◌, ◌-◌, List, length, get_or}
use Rattle.session_meaning.specs.declared.slots.Slot.{Slot}
use Rattle.session_meaning.proofs.slots.place_of.Given as goal

-- all before `low` are of earlier records, and none from `high` on is
pub record Between (slots : List Slot) (id low high : ℕ) : Type 0 where
  pub before : (k : ℕ) (d : Slot) → k < low → (get_or slots k d).id < id
  pub after : (k : ℕ) (d : Slot) → high ≤ k → k < length slots → id ≤ (get_or slots k d).id
  pub order : low ≤ high
  pub within : high ≤ length slots

abbrev pub invariant-loop-low : goal.invariant-loop-low
invariant-loop-low l = Between l.slots l.id l.low l.high

abbrev pub decreases-loop-low : goal.decreases-loop-low
decreases-loop-low l = l.high - l.low
