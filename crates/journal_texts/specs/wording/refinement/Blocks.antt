-- Digits that are read sixteen at a time.
use Rattle.std.specs.Prelude.{◌≡◌, ℕ, ◌+◌, ◌*◌, ◌<◌, ◌≤◌, ◌⊎◌, List, length, slice_index, Bool, true, Some}
use Rattle.hex.specs.Hex.{hex_digit_value, is_hex_digit}

-- of each of sixteen bytes that is a digit its value stands at the same place
pub record AreWorth (digits values : List ℕ) : Type 0 where
  pub size : length values ≡ 16
  pub each : (i : ℕ) → i < 16 → is_hex_digit (slice_index digits i) ≡ true → hex_digit_value (slice_index digits i) ≡ Some (slice_index values i)

-- eight bytes, of values below 16 of which the upper one comes first
pub record Joins (values bytes : List ℕ) : Type 0 where
  pub size : length bytes ≡ 8
  pub each : (j : ℕ) → j < 8 → slice_index values (2 * j) < 16 → slice_index values (2 * j + 1) < 16 → slice_index bytes j ≡ slice_index values (2 * j) * 16 + slice_index values (2 * j + 1)

-- the two digits at that place of a word are this byte
pub record IsPair (word : List ℕ) (k b : ℕ) : Type 0 where
  pub upper : ℕ
  pub lower : ℕ
  pub first : hex_digit_value (slice_index word (2 * k)) ≡ Some upper
  pub second : hex_digit_value (slice_index word (2 * k + 1)) ≡ Some lower
  pub byte : b ≡ upper * 16 + lower

-- eight bytes from that place on are the digits' there, where these are good, and the others stay
pub record IsWritten (word : List ℕ) (half : ℕ) (old new : List ℕ) (good : Bool) : Type 0 where
  pub size : length new ≡ length old
  pub here : good ≡ true → (j : ℕ) → j < 8 → IsPair word (half + j) (slice_index new (half + j))
  pub elsewhere : (k : ℕ) → (k < half) ⊎ (half + 8 ≤ k) → slice_index new k ≡ slice_index old k
