-- Where a text of a plan is refused.
use Rattle.std.specs.Prelude.{◌≡◌, ◌<◌, ◌≤◌, ◌+◌, ℕ, List, [], ◌∷◌, length, true, slice_get, Some, Ok, Err}
use Rattle.std.specs.Result.{MatchResult}
use Rattle.office_map.specs.declared.fault.PlanRule.TheVariants.{Header, Limit}
use Rattle.office_map.specs.declared.fault.PlanRefusal.{PlanRefusal}
use Rattle.office_map.specs.PlanValue.{PlanValue}
use Rattle.office_map.specs.PlanText.{read_header, plan_of, Lead, IsFirstFault}
use Rattle.text_lines.specs.Text.{lines, says_something, statements}
use Rattle.office_map.specs.Limits.{most_text}

-- the line of this number is there, and says something
pub record SaysSomethingAt (text : List ℕ) (n : ℕ) : Type 0 where
  pub before : ℕ
  pub number : n ≡ before + 1
  pub line : List ℕ
  pub is : slice_get (lines text) before ≡ Some line
  pub says : says_something line ≡ true

-- the first line that says something is a header, and those after it are accepted one after the other
pub record IsReadTo (text : List ℕ) (p : PlanValue) : Type 0 where
  pub first : ℕ × List ℕ
  pub others : List (ℕ × List ℕ)
  pub split : statements text ≡ first ∷ others
  pub empty : PlanValue
  pub header : read_header first ≡ Ok empty
  pub accepted : Lead empty others p

-- Line 0 is told only of a text that is too long, has no line that says something, or declares too few offices. Every
-- other refusal is of the header, or of the first faulty line after it: a line that says something.
pub data IsRefusedAs (text : List ℕ) : PlanRefusal → Type 0 where
  too_long : most_text < length text → IsRefusedAs text (record { rule = Limit; line = 0 })
  without_lines : length text ≤ most_text → statements text ≡ [] → IsRefusedAs text (record { rule = Header; line = 0 })
  at_the_header : (first : ℕ × List ℕ) (others : List (ℕ × List ℕ)) (f : PlanRefusal) → length text ≤ most_text → statements text ≡ first ∷ others → read_header first ≡ Err f
      → SaysSomethingAt text f.line → IsRefusedAs text f
  at_a_line : (first : ℕ × List ℕ) (others : List (ℕ × List ℕ)) (empty : PlanValue) (f : PlanRefusal) → length text ≤ most_text → statements text ≡ first ∷ others
      → read_header first ≡ Ok empty → IsFirstFault empty others f → SaysSomethingAt text f.line → IsRefusedAs text f
  too_few : (p : PlanValue) → length text ≤ most_text → IsReadTo text p → length p.offices < 2 → IsRefusedAs text (record { rule = Limit; line = 0 })

-- a text that isn't refused is short enough, and declares two offices
pub record IsReadAs (text : List ℕ) (p : PlanValue) : Type 0 where
  pub short : length text ≤ most_text
  pub read : IsReadTo text p
  pub offices : 2 ≤ length p.offices

-- a text is refused so, or else it is accepted
abbrev pub RefusesALine : Type 0
RefusesALine = (text : List ℕ) → MatchResult (plan_of text) (IsReadAs text) (IsRefusedAs text)
