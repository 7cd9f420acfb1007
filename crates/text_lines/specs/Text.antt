-- What all texts share: lines, words, names and numbers.
use Rattle.std.specs.Prelude.{ℕ, ◌+◌, ◌-◌, ◌*◌, ◌^◌, List, [], ◌∷◌, length, filter, fold, Bool, false, not, ◌&&◌, ◌||◌, ◌==◌, nat_lt, nat_le, Option, Some, None, if◌then◌else◌, codes}
use Rattle.std.specs.List.{slice_split, list_all, list_any}
use Rattle.std.specs.Str.{bytes_eq}
use Rattle.std.specs.Str.Lines as std_lines
use Rattle.std.specs.Char.{is_ascii_digit, is_ascii_alphabetic, is_ascii_alphanumeric}

-- Lines end with LF. A CR before the LF is dropped, and the last LF may be missing.
abbrev pub lines : List ℕ → List (List ℕ)
lines = std_lines.lines

abbrev pub is_newline : ℕ → Bool
is_newline b = b == 10

-- a space or a tab
abbrev pub is_blank : ℕ → Bool
is_blank b = b == 32 || b == 9

-- Words are separated by one or more spaces or tabs.
abbrev pub words_of : List ℕ → List (List ℕ)
words_of line = filter (λ w. not (length w == 0)) (slice_split is_blank line)

abbrev pub keywords : List (List ℕ)
keywords = codes "session" ∷ codes "let" ∷ codes "set" ∷ codes "give" ∷ codes "require" ∷ codes "else" ∷ codes "if" ∷ codes "repeat" ∷ codes "end" ∷ codes "read" ∷ []

abbrev pub is_keyword : List ℕ → Bool
is_keyword word = list_any (λ k. bytes_eq k word) keywords

abbrev pub is_name_byte : ℕ → Bool
is_name_byte b = is_ascii_alphanumeric b || b == 95

-- letters of a name
abbrev pub most_letters : ℕ
most_letters = 16

-- a NAME: a letter, then at most 15 letters, digits or _, and no keyword
abbrev pub is_name : List ℕ → Bool
is_name [] = false
is_name (first ∷ rest) =
    (is_ascii_alphabetic first && nat_le (length (first ∷ rest)) most_letters) && (list_all is_name_byte (first ∷ rest) && not (is_keyword (first ∷ rest)))

-- a word as a NAME, if it is one
abbrev pub name_of : List ℕ → Option (List ℕ)
name_of word = if is_name word then Some word else None

-- what decimal digits stand for
abbrev pub decimal : List ℕ → ℕ
decimal = fold (λ n b. 10 * n + (b - 48)) 0

-- the value of a NUMBER: one to nineteen digits, at most the largest i64
abbrev pub number_of : List ℕ → Option ℕ
number_of word =
    if (nat_lt 0 (length word) && nat_le (length word) 19) && (list_all is_ascii_digit word && nat_lt (decimal word) (2 ^ 63)) then Some (decimal word) else None

-- the bytes that may stand in a line: tab, and the bytes 20 to 7E
abbrev pub is_plain : ℕ → Bool
is_plain b = b == 9 || (nat_le 32 b && nat_le b 126)

-- the words of a line of such bytes
abbrev pub plain_words : List ℕ → Option (List (List ℕ))
plain_words line = if list_all is_plain line then Some (words_of line) else None

-- neither blank nor a comment: the first byte other than a space or tab is there, and is no #
abbrev pub says_something : List ℕ → Bool
says_something [] = false
says_something (b ∷ bs) = if is_blank b then says_something bs else not (b == 35)

-- the lines that say something, each with its number, where the first line has the number n
abbrev pub statements_from : ℕ → List (List ℕ) → List (ℕ × List ℕ)
statements_from n [] = []
statements_from n (line ∷ more) = if says_something line then (n, line) ∷ statements_from (n + 1) more else statements_from (n + 1) more

abbrev pub statements : List ℕ → List (ℕ × List ℕ)
statements text = statements_from 1 (lines text)
