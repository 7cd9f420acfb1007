-- Plans of numbers alone, as every text is read that doesn't begin as one of version 2: its lines have the words of all
-- texts, and its values are numbers.
use Rattle.std.specs.Prelude.{◌≡◌, ◌≢◌, ℕ, List, [], ◌∷◌, length, ◌&&◌, nat_lt, Option, Some, None, Result, Ok, Err, if◌then◌else◌, codes, option_map}
use Rattle.std.specs.Str.{bytes_eq}
use Rattle.std.specs.Option.{ok_or}
use Rattle.bottle_values.specs.declared.Value.{Value}
use Rattle.bottle_values.specs.declared.Value.TheVariants.{Number}
use Rattle.bottle_values.specs.declared.version.Version.{Version}
use Rattle.bottle_values.specs.declared.version.Version.TheVariants.{One, Two}
use Rattle.office_map.specs.declared.fault.PlanRule.TheVariants.{Header, Line, Limit}
use Rattle.office_map.specs.declared.fault.PlanRefusal.{PlanRefusal}
use Rattle.office_map.specs.PlanValue.{PlanValue}
use Rattle.office_map.specs.PlanWords.{plain_plan_words}
use Rattle.office_map.specs.PlanText.{◌>>=◌, ◌>>◌, refuse_if, and_then, integer_of, declaration_of, small_number, header_of, declare, at_line, empty_plan, plan_of}
use Rattle.text_lines.specs.Text.{plain_words, number_of, statements}
use Rattle.office_map.specs.Limits.{most_text}

-- the number that a word spells, as a value
abbrev pub number_value : List ℕ → Option Value
number_value word = option_map Number (integer_of word)

-- plan 1 run N
abbrev pub run_of : List (List ℕ) → Option ℕ
run_of (plan ∷ one ∷ run ∷ number ∷ []) =
    if (bytes_eq plan (codes "plan") && bytes_eq one (codes "1")) && bytes_eq run (codes "run") then small_number (number_of number) else None
run_of words = None

-- reading, line by line
abbrev pub read_number_header : ℕ × List ℕ → Result PlanValue PlanRefusal
read_number_header l = at_line l.0 (do
  run ← ok_or (and_then (plain_words l.1) run_of) Header
  Ok (empty_plan One run))

abbrev pub read_number_line : PlanValue → ℕ × List ℕ → Result PlanValue PlanRefusal
read_number_line p l = at_line l.0 (do
  d ← ok_or (and_then (plain_words l.1) (declaration_of number_value)) Line
  declare p d)

abbrev pub read_number_lines : PlanValue → List (ℕ × List ℕ) → Result PlanValue PlanRefusal
read_number_lines p [] = Ok p
read_number_lines p (l ∷ ls) = read_number_line p l >>= λ q. read_number_lines q ls

abbrev pub read_number_statements : List (ℕ × List ℕ) → Result PlanValue PlanRefusal
read_number_statements [] = Err (record { rule = Header; line = 0 })
read_number_statements (l ∷ ls) = read_number_header l >>= λ p. read_number_lines p ls

abbrev pub number_plan_of : List ℕ → Result PlanValue PlanRefusal
number_plan_of text = do
  refuse_if (nat_lt most_text (length text)) (record { rule = Limit; line = 0 })
  p ← read_number_statements (statements text)
  refuse_if (nat_lt (length p.offices) 2) (record { rule = Limit; line = 0 })
  Ok p

-- the version that the first line tells, where it is a header
abbrev pub version_told : List (ℕ × List ℕ) → Option Version
version_told [] = None
version_told (l ∷ ls) = option_map (λ h. h.0) (and_then (plain_plan_words l.1) header_of)

-- Any text that isn't one of version 2 means what it means as a plan of numbers, or has the fault that it has there.
abbrev pub NumbersMeanTheSame : Type 0
NumbersMeanTheSame = (text : List ℕ) → version_told (statements text) ≢ Some Two → plan_of text ≡ number_plan_of text
