-- Which bytes are a text.
use Rattle.std.specs.Prelude.{ℕ, List, length, Bool, not, ◌&&◌, ◌==◌, nat_le}
use Rattle.std.specs.List.{list_all}

-- a visible byte or a space, but no quotation mark
abbrev pub is_text_byte : ℕ → Bool
is_text_byte b = nat_le 32 b && nat_le b 126 && not (b == 34)

-- the most bytes that a text has
abbrev pub longest_text : ℕ
longest_text = 64

-- at most so many, each of which may stand in a text
abbrev pub is_text : List ℕ → Bool
is_text bytes = nat_le (length bytes) longest_text && list_all is_text_byte bytes
