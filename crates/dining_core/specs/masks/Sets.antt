-- Sets of small numbers as the bits of a number.
use Rattle.std.specs.Prelude.{◌≡◌, ℕ, ◌<◌, Bool, true, false, Option, None, Some, ◌==◌}
use Rattle.std.specs.Int.{bit_at}
use Rattle.dining_core.specs.declared.masks.mask128.Mask128.{Mask128}
use Rattle.dining_core.specs.declared.masks.mask16.Mask16.{Mask16}

abbrev pub has_bit : ℕ → ℕ → Bool
has_bit n i = bit_at n i == 1

-- whether a set of numbers below 16 has this one
abbrev pub is_in16 : Mask16 → ℕ → Bool
is_in16 m i = has_bit m.bits i

-- whether a set of numbers below 128 has this one
abbrev pub is_in128 : Mask128 → ℕ → Bool
is_in128 m i = has_bit m.bits i

-- a number that falls where one that the set has is taken out
abbrev pub size16 : Mask16 → ℕ
size16 m = m.bits

-- the same of a set of numbers below 128
abbrev pub size128 : Mask128 → ℕ
size128 m = m.bits

-- of the numbers below n the least that has p; or none, where none has it
abbrev pub IsLeast : ℕ → (ℕ → Bool) → Option ℕ → Type 0
IsLeast n p None = (i : ℕ) → i < n → p i ≡ false
IsLeast n p (Some i) = (i < n) × (p i ≡ true) × ((j : ℕ) → j < i → p j ≡ false)
