-- Which lists of bytes can be a short name.
use Rattle.std.specs.Prelude.{ℕ, List, length, Bool, ◌&&◌, nat_lt, nat_le, Option, Some, None, if◌then◌else◌}
use Rattle.std.specs.List.{list_all}

-- bytes of a name
abbrev pub most_bytes : ℕ
most_bytes = 16

-- ASCII, and not the zero that stands where a name has no byte
abbrev pub is_short_byte : ℕ → Bool
is_short_byte b = nat_lt 0 b && nat_lt b 128

-- at most sixteen such bytes
abbrev pub is_short : List ℕ → Bool
is_short bytes = nat_le (length bytes) most_bytes && list_all is_short_byte bytes

-- the bytes as a name, if they can be one
abbrev pub short_of : List ℕ → Option (List ℕ)
short_of bytes = if is_short bytes then Some bytes else None
