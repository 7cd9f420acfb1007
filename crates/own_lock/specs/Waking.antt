-- Which pass is woken, of those that wait. A word has a bit for each of them, by its tag.
use Rattle.std.specs.Prelude.{◌≡◌, ℕ, ◌<◌, nat_lt, Bool, true, false, ◌&&◌, ◌==◌, Option, None, Some}
use Rattle.std.specs.Int.{bit_at}
use mathlib.Core.Logic.{◌⊎◌}

abbrev pub waits_in : ℕ → ℕ → Bool
waits_in word t = bit_at word t == 1

-- of the numbers that have p those above one
abbrev pub above : ℕ → (ℕ → Bool) → ℕ → Bool
above n p t = nat_lt n t && p t

-- the least number that has p; or none, where none has it
abbrev pub IsLeast : (ℕ → Bool) → Option ℕ → Type 0
IsLeast p None = (t : ℕ) → p t ≡ false
IsLeast p (Some t) = (p t ≡ true) × ((u : ℕ) → u < t → p u ≡ false)

-- Going round in order of tags, the first after one: the least above it, or, where there is none above it, the least of all.
abbrev pub IsNextAfter : ℕ → (ℕ → Bool) → Option ℕ → Type 0
IsNextAfter n p None = IsLeast p None
IsNextAfter n p (Some t) = IsLeast (above n p) (Some t) ⊎ (IsLeast (above n p) None × IsLeast p (Some t))
