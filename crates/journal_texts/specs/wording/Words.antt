-- The words of offices, records and numbers, and lines of words.
use Rattle.std.specs.Prelude.{◌≡◌, ℕ, List, ◌&&◌, nat_lt, nat_le, Bool, true, Option, Some, None, if◌then◌else◌, length}
use Rattle.std.specs.List.{list_all, join_with_byte}
use Rattle.office_map.specs.PlanValue.{PlanValue, office_named, record_named}
use Rattle.text_lines.specs.Text.{name_of, number_of, plain_words}
use Rattle.office_map.specs.PlanText.{and_then}
pub use Rattle.session_reports.specs.Names.{office_name, record_name}

-- the office that a word names
abbrev pub office_by : PlanValue → List ℕ → Option ℕ
office_by p word = and_then (name_of word) (office_named p)

-- the record that a word names
abbrev pub record_by : PlanValue → List ℕ → Option ℕ
record_by p word = and_then (name_of word) (record_named p)

-- a number from 1 to the most
abbrev pub counted : ℕ → ℕ → Option ℕ
counted most n = if nat_le 1 n && nat_le n most then Some n else None

-- a word as such a number
abbrev pub count_by : ℕ → List ℕ → Option ℕ
count_by most word = and_then (number_of word) (counted most)

-- one or more bytes from 21 to 7E
abbrev pub is_visible : ℕ → Bool
is_visible b = nat_le 33 b && nat_le b 126

abbrev pub is_word : List ℕ → Bool
is_word w = nat_lt 0 (length w) && list_all is_visible w

-- words with a space between
abbrev pub line_of_words : List (List ℕ) → List ℕ
line_of_words = join_with_byte 32

-- a line of words is plain, and is cut into these words
abbrev pub LinesAreCutIntoTheirWords : Type 0
LinesAreCutIntoTheirWords = (ws : List (List ℕ)) → list_all is_word ws ≡ true → plain_words (line_of_words ws) ≡ Some ws
