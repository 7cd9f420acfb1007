-- The words of a plan's line. One that begins with " goes on to the next ", blanks between the two too, and then to the next
-- blank. The others are those of every text.
use Rattle.std.specs.Prelude.{ℕ, zero, suc, ◌+◌, List, [], ◌∷◌, take, drop, Bool, ◌==◌, Option, Some, None, if◌then◌else◌}
use Rattle.std.specs.List.{list_all, position_or_len}
use Rattle.text_lines.specs.Text.{is_blank, is_plain}

abbrev pub is_quote : ℕ → Bool
is_quote b = b == 34

-- how many bytes come before a blank
abbrev pub unspaced : List ℕ → ℕ
unspaced = position_or_len is_blank

-- how many bytes come up to the next ", and with it
abbrev pub quoted : List ℕ → ℕ
quoted bytes = position_or_len is_quote bytes + 1

-- how many of the bytes behind this one belong to the word that it begins; more than there are where a " has no other
abbrev pub others_of : ℕ → List ℕ → ℕ
others_of b bs = if is_quote b then quoted bs + unspaced (drop (quoted bs) bs) else unspaced bs

-- the words of a line that begin behind its first bytes, so many of them
abbrev pub words_behind : ℕ → List ℕ → List (List ℕ)
words_behind k [] = []
words_behind (suc k) (b ∷ bs) = words_behind k bs
words_behind zero (b ∷ bs) = if is_blank b then words_behind zero bs else (b ∷ take (others_of b bs) bs) ∷ words_behind (others_of b bs) bs

-- the words of a line
unfoldable pub plan_words : List ℕ → List (List ℕ)
plan_words line = words_behind 0 line

-- the words of a line of bytes that may stand there
abbrev pub plain_plan_words : List ℕ → Option (List (List ℕ))
plain_plan_words line = if list_all is_plain line then Some (plan_words line) else None
