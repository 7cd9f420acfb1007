-- A name as sixteen bytes, and as two words.
use Rattle.std.specs.Prelude.{◌≡◌, ℕ, ◌-◌, ◌*◌, ◌%◌, ◌^◌, ◌≤◌, List, ◌++◌, length, take, drop, replicate, true, bit_xor}
use Rattle.std.specs.List.{list_all}
use Rattle.std.specs.Int.{w64, from_le_bytes}
use Rattle.text_lines.specs.short.Names.{most_bytes, is_short_byte}

-- the bytes of a name, and zeros after them: sixteen in all
abbrev pub padded : List ℕ → List ℕ
padded name = name ++ replicate (most_bytes - length name) 0

-- of sixteen bytes so many are a name, and the others are zeros
pub record IsPacked (bytes : List ℕ) (count : ℕ) : Type 0 where
  pub within : count ≤ most_bytes
  pub whole : length bytes ≡ most_bytes
  pub filled : padded (take count bytes) ≡ bytes
  pub short : list_all is_short_byte (take count bytes) ≡ true

-- eight bytes as a word, the lowest first: those from the first on, and those from the ninth on
unfoldable pub first_eight : List ℕ → ℕ
first_eight bytes = from_le_bytes w64 bytes

unfoldable pub last_eight : List ℕ → ℕ
last_eight bytes = from_le_bytes w64 (drop 8 bytes)

-- the two words of a name, mixed to one
unfoldable pub key_of : List ℕ → ℕ
key_of name = (bit_xor (first_eight (padded name)) (last_eight (padded name)) * 0x9E37_79B9_7F4A_7C15) % 2 ^ 64
