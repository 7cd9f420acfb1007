-- The canonical text of expressions and sessions: one space between tokens, but none after ( and before ), and none
-- after a leading minus; parentheses only where the grouping needs them; no blank line and no comment.
use Rattle.std.specs.Prelude.{ℕ, ℤ, pos, negsuc, List, [], ◌∷◌, ◌++◌, codes, unwrap_or}
use Rattle.std.specs.Fmt.{decimal}
use Rattle.office_map.specs.PlanValue.{record_name_of}
use Rattle.session_programs.specs.declared.words.Words as code_words
use Rattle.session_programs.specs.declared.words.RecordNames.{RecordNames}
use Rattle.session_programs.specs.declared.words.RecordNames.TheVariants.{Of, Wide}
use Rattle.std.specs.List.{slice_index_or}
use Rattle.bottle_values.specs.declared.Value.{Value}
use Rattle.bottle_values.specs.declared.Value.TheVariants.{Number, Text}
use Rattle.bottle_values.specs.Printed.{quoted}
use Rattle.session_meaning.specs.declared.node.Operator.{Operator}
use Rattle.session_meaning.specs.declared.node.Operator.TheVariants as op
use Rattle.session_meaning.specs.declared.node.Comparison.{Comparison}
use Rattle.session_meaning.specs.declared.node.Comparison.TheVariants.{Equal, NotEqual, Less, AtMost, Greater, AtLeast}
use Rattle.session_programs.specs.declared.rank.Rank.{Rank}
use Rattle.session_programs.specs.declared.rank.Rank.TheVariants.{Factor, Product, Sum}
use Rattle.session_meaning.specs.Tree.{Term, Constant, Var, ReadOf, Neg, Bin, Test, Command, LetVar, SetTo, GiveOf, Requires, When, Choice, Loop, Block, Nothing, Then}

-- the words that stand for an office, variables and records
pub record Words : Type 0 where
  pub office : List ℕ
  pub variables : List (List ℕ)
  pub record_name : ℕ → List ℕ

-- a record's name, or nothing where the plan has no such record
abbrev pub record_names : RecordNames → ℕ → List ℕ
record_names (Of plan) r = unwrap_or (record_name_of plan.now r) []
record_names Wide r = codes "0123456789abcdef"

abbrev pub words_of : code_words.Words → Words
words_of w = record { office = w.office.now; variables = w.variables.now; record_name = record_names w.records }

abbrev pub variable_name : Words → ℕ → List ℕ
variable_name w k = slice_index_or w.variables k []

-- the number of a literal, which has no sign
abbrev pub magnitude : ℤ → ℕ
magnitude (pos n) = n
magnitude (negsuc n) = 0

-- a literal is a number without a sign, or a text between two quotation marks
abbrev pub literal : Value → List ℕ
literal (Number z) = decimal (magnitude z)
literal (Text t) = quoted t

abbrev pub in_parentheses : List ℕ → List ℕ
in_parentheses text = 40 ∷ (text ++ 41 ∷ [])

-- how tightly the outermost operator of an expression binds
abbrev pub rank_of : Term → Rank
rank_of (Constant v) = Factor
rank_of (Var k) = Factor
rank_of (ReadOf r) = Factor
rank_of (Neg e) = Factor
rank_of (Bin op.Times a b) = Product
rank_of (Bin op.Plus a b) = Sum
rank_of (Bin op.Minus a b) = Sum

-- where a factor must stand, any operator goes in parentheses
abbrev pub factor_text : Rank → List ℕ → List ℕ
factor_text Factor text = text
factor_text Product text = in_parentheses text
factor_text Sum text = in_parentheses text

-- where a product must stand, a sum does
abbrev pub product_text : Rank → List ℕ → List ℕ
product_text Factor text = text
product_text Product text = text
product_text Sum text = in_parentheses text

abbrev pub read_text : List ℕ → List ℕ
read_text name = codes "read " ++ name

abbrev pub operator_text : Operator → List ℕ
operator_text op.Plus = codes " + "
operator_text op.Minus = codes " - "
operator_text op.Times = codes " * "

abbrev pub term_text : Words → Term → List ℕ
term_text w (Constant v) = literal v
term_text w (Var k) = variable_name w k
term_text w (ReadOf r) = read_text (w.record_name r)
term_text w (Neg e) = 45 ∷ factor_text (rank_of e) (term_text w e)
term_text w (Bin op.Times a b) = product_text (rank_of a) (term_text w a) ++ (operator_text op.Times ++ factor_text (rank_of b) (term_text w b))
term_text w (Bin op.Plus a b) = term_text w a ++ (operator_text op.Plus ++ product_text (rank_of b) (term_text w b))
term_text w (Bin op.Minus a b) = term_text w a ++ (operator_text op.Minus ++ product_text (rank_of b) (term_text w b))

-- two operands with an operator between them
abbrev pub operation_text : Words → Operator → Term → Term → List ℕ
operation_text w o a b = term_text w (Bin o a b)

-- how a comparison is written, between its two sides
abbrev pub comparison_text : Comparison → List ℕ
comparison_text Equal = codes " == "
comparison_text NotEqual = codes " != "
comparison_text Less = codes " < "
comparison_text AtMost = codes " <= "
comparison_text Greater = codes " > "
comparison_text AtLeast = codes " >= "

abbrev pub test_text : Words → Test → List ℕ
test_text w t = term_text w t.left ++ (comparison_text t.comparison ++ term_text w t.right)

abbrev pub line : List ℕ → List ℕ
line text = text ++ 10 ∷ []

abbrev pub let_text : List ℕ → List ℕ → List ℕ
let_text name text = codes "let " ++ (name ++ (codes " = " ++ text))

abbrev pub set_text : List ℕ → List ℕ → List ℕ
set_text name text = codes "set " ++ (name ++ (codes " = " ++ text))

abbrev pub require_text : List ℕ → ℕ → List ℕ
require_text condition code = codes "require " ++ (condition ++ (codes " else " ++ decimal code))

-- the lines of a statement, each with its LF
abbrev mutual
  pub command_text : Words → Command → List ℕ
  command_text w (LetVar k e) = line (let_text (variable_name w k) (term_text w e))
  command_text w (SetTo r e) = line (set_text (w.record_name r) (term_text w e))
  command_text w (GiveOf e) = line (codes "give " ++ term_text w e)
  command_text w (Requires t code) = line (require_text (test_text w t) code)
  command_text w (When t b) = line (codes "if " ++ test_text w t) ++ (block_text w b ++ line (codes "end"))
  command_text w (Choice t a b) = line (codes "if " ++ test_text w t) ++ (block_text w a ++ (line (codes "else") ++ (block_text w b ++ line (codes "end"))))
  command_text w (Loop n b) = line (codes "repeat " ++ decimal n) ++ (block_text w b ++ line (codes "end"))

  pub block_text : Words → Block → List ℕ
  block_text w Nothing = []
  block_text w (Then c rest) = command_text w c ++ block_text w rest

abbrev pub session_text : Words → Block → List ℕ
session_text w body = line (codes "session " ++ w.office) ++ (block_text w body ++ line (codes "end"))

-- the size of a session: its text, where each office and record has a name of 16 bytes
abbrev pub wide_words : List (List ℕ) → Words
wide_words variables = record { office = codes "0123456789abcdef"; variables = variables; record_name = record_names Wide }
