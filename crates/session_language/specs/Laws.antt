-- Laws of the definitions that contracts cite.
use Rattle.std.specs.Prelude.{◌≡◌, ◌≤◌, ◌<◌, ◌+◌, ℕ, List, [], ◌∷◌, ◌++◌, length, Some, None, Ok, Err}
use Rattle.std.specs.Result.{MatchResult}
use Rattle.office_map.specs.PlanValue.{PlanValue}
use Rattle.text_lines.specs.Text.{lines, statements}
use Rattle.office_map.specs.RefusedLines.{SaysSomethingAt}
use Rattle.session_language.specs.declared.fault.SessionRule.TheVariants.{TooLong, Syntax}
use Rattle.session_language.specs.declared.fault.SessionRefusal.{SessionRefusal}
use Rattle.session_meaning.specs.ProgramValue.{ProgramValue}
use Rattle.session_language.specs.Spelling.{Spelled, Token}
use Rattle.session_language.specs.Parse.{read_part}
use Rattle.session_language.specs.Grammar.{IsExpr}
use Rattle.session_language.specs.Reading.{Draft, Reading, take_line, at_line, read_lines, nothing_read, sessions_of}
use Rattle.session_language.specs.Limits.{most_text}

-- these lines are accepted one after the other, from x on, and leave y
abbrev pub Lead : PlanValue → Reading → List (ℕ × List ℕ) → Reading → Type 0
Lead p x [] y = x ≡ y
Lead p x (l ∷ ls) y = (next : Reading) × (at_line l.0 (take_line p x l.1) ≡ Ok next) × Lead p next ls y

-- a line is refused, and all before it are accepted
pub record IsFirstFault (p : PlanValue) (x : Reading) (lines : List (ℕ × List ℕ)) (f : SessionRefusal) : Type 0 where
  pub before : List (ℕ × List ℕ)
  pub line : ℕ × List ℕ
  pub after : List (ℕ × List ℕ)
  pub split : lines ≡ before ++ line ∷ after
  pub reached : Reading
  pub accepted : Lead p x before reached
  pub refused : at_line line.0 (take_line p reached line.1) ≡ Err f

-- Reading the lines is this, and nothing else: a text is refused exactly where its lines before the fault are accepted
-- and that line isn't.
abbrev pub ReadsInOrder : Type 0
ReadsInOrder = (p : PlanValue) (x : Reading) (lines : List (ℕ × List ℕ)) → MatchResult (read_lines p x lines) (Lead p x lines) (IsFirstFault p x lines)

-- Line 0 is told only of a text that is too long, and the line after the last only where all lines are accepted and a
-- session is still open. Every other refusal is of the first faulty line, which says something.
pub data IsRefusedAs (p : PlanValue) (text : List ℕ) : SessionRefusal → Type 0 where
  too_long : most_text < length text → IsRefusedAs p text (record { rule = TooLong; line = 0 })
  at_a_line : (f : SessionRefusal) → length text ≤ most_text → IsFirstFault p nothing_read (statements text) f → SaysSomethingAt text f.line → IsRefusedAs p text f
  left_open : (x : Reading) (d : Draft) → length text ≤ most_text → Lead p nothing_read (statements text) x → x.open_session ≡ Some d
      → IsRefusedAs p text (record { rule = Syntax; line = length (lines text) + 1 })

-- a text that isn't refused is short enough, all its lines are accepted, and its sessions are closed
pub record IsReadAs (p : PlanValue) (text : List ℕ) (ps : List ProgramValue) : Type 0 where
  pub short : length text ≤ most_text
  pub accepted : Lead p nothing_read (statements text) (record { done = ps; open_session = None })

-- a text is refused so, or else it is accepted
abbrev pub RefusesALine : Type 0
RefusesALine = (p : PlanValue) (text : List ℕ) → MatchResult (sessions_of p text) (IsReadAs p text) (IsRefusedAs p text)

-- an expression is read exactly where the grammar has it, as that tree and as deep
pub record IsReadBy (ts : List Token) (e : Spelled) (d : ℕ) : Type 0 where
  pub read : IsExpr ts e d → read_part ts ≡ Some (record { tree = e; depth = d })
  pub spelled : read_part ts ≡ Some (record { tree = e; depth = d }) → IsExpr ts e d

-- what the reader takes is exactly what the grammar has
abbrev pub ReadsTheGrammar : Type 0
ReadsTheGrammar = (ts : List Token) (e : Spelled) (d : ℕ) → IsReadBy ts e d

-- no tokens spell two trees
abbrev pub IsUnambiguous : Type 0
IsUnambiguous = (ts : List Token) (e f : Spelled) (c d : ℕ) → IsExpr ts e c → IsExpr ts f d → (e ≡ f) × (c ≡ d)
