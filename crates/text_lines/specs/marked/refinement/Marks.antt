-- Bytes that end words and lines, marked for many bytes at once.
use Rattle.std.specs.Prelude.{◌≡◌, ◌≤◌, ◌<◌, ℕ, nat_lt, nat_le, ◌&&◌, List, [], ◌∷◌, length, map, take, Bool, true}
use Rattle.std.specs.List.{list_all, position_or_len}
use Rattle.std.specs.Simd.Lanes.{mask_l}
use Rattle.text_lines.specs.Text.{is_newline, is_plain, says_something}

-- at most a space: in a plain line that is a space or a tab
abbrev pub is_low : ℕ → Bool
is_low b = nat_lt b 33

-- a bit for each byte, the lowest for the first
abbrev pub low_marks : List ℕ → ℕ
low_marks bytes = mask_l (map is_low bytes)

-- the bytes 20 to 7E
abbrev pub is_printable : ℕ → Bool
is_printable b = nat_le 32 b && nat_le b 126

-- a plain line of so many bytes begins the text, of which the first bytes are marked
pub record IsMarked (text : List ℕ) (end low seen : ℕ) : Type 0 where
  pub within : end ≤ length text
  pub few : seen ≤ 64
  pub there : seen ≤ length text
  pub marks : low ≡ low_marks (take seen text)
  pub plain : list_all is_plain (take end text) ≡ true

-- a plain line that says something begins the text, and an LF ends it
pub record BeginsPlain (text : List ℕ) (end : ℕ) : Type 0 where
  pub some : 0 < end
  pub within : end < length text
  pub ended : end ≡ position_or_len is_newline text
  pub printable : list_all is_printable (take end text) ≡ true
  pub says : says_something (take end text) ≡ true

-- a word before others, where it has bytes
abbrev pub put_before : List ℕ → List (List ℕ) → List (List ℕ)
put_before [] words = words
put_before (b ∷ bs) words = (b ∷ bs) ∷ words
