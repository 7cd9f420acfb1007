-- What the names of an expression stand for where its line stands.
use Rattle.std.specs.Prelude.{ℕ, pos, List, Option, Some, None, Bool, true, is_some, position, unwrap_or, if◌then◌else◌}
use Rattle.std.specs.List.{list_all}
use Rattle.std.specs.Str.{bytes_eq}
use Rattle.office_map.specs.PlanValue.{PlanValue, record_named, is_end}
use Rattle.bottle_values.specs.declared.Value.TheVariants.{Number, Text}
use Rattle.session_language.specs.declared.scope.Scope as code
use Rattle.session_meaning.specs.Tree.{Term, Constant, Var, ReadOf, Neg, Bin}
use Rattle.session_language.specs.Spelling.{Operand, ANumber, AText, AVariable, ARecord, Spelled, Plain, Negative, Binary, Token, Leaf, Plus, Minus, Times, Open, Close}

-- the plan, the session's office, and the variables that earlier lines name
pub record Scope : Type 0 where
  pub plan : PlanValue
  pub office : ℕ
  pub variables : List (List ℕ)

abbrev pub scope_of : code.Scope → Scope
scope_of s = record { plan = s.plan.now; office = s.office; variables = s.variables.now }

abbrev pub variable_named : Scope → List ℕ → Option ℕ
variable_named s name = position (λ v. bytes_eq v name) s.variables

abbrev pub if_of_office : Scope → Option ℕ → Option ℕ
if_of_office s None = None
if_of_office s (Some r) = if is_end s.plan r s.office then Some r else None

-- the record of this name, if it is of the session's office
abbrev pub record_of : Scope → List ℕ → Option ℕ
record_of s name = if_of_office s (record_named s.plan name)

abbrev pub knows_variable : Scope → Operand → Bool
knows_variable s (ANumber n) = true
knows_variable s (AText t) = true
knows_variable s (AVariable name) = is_some (variable_named s name)
knows_variable s (ARecord name) = true

abbrev pub knows_record : Scope → Operand → Bool
knows_record s (ANumber n) = true
knows_record s (AText t) = true
knows_record s (AVariable name) = true
knows_record s (ARecord name) = is_some (record_of s name)

-- an unknown name is at place 0
abbrev pub operand_of : Scope → Operand → Term
operand_of s (ANumber n) = Constant (Number (pos n))
operand_of s (AText t) = Constant (Text t)
operand_of s (AVariable name) = Var (unwrap_or (variable_named s name) 0)
operand_of s (ARecord name) = ReadOf (unwrap_or (record_of s name) 0)

-- the expression, each name in its place
abbrev pub placed : Scope → Spelled → Term
placed s (Plain x) = operand_of s x
placed s (Negative e) = Neg (placed s e)
placed s (Binary o a b) = Bin o (placed s a) (placed s b)

-- what is so of a token's operand; of a token without one it is so
abbrev pub of_operand : (Operand → Bool) → Token → Bool
of_operand so (Leaf x) = so x
of_operand so Plus = true
of_operand so Minus = true
of_operand so Times = true
of_operand so Open = true
of_operand so Close = true

abbrev pub token_variable : Scope → Token → Bool
token_variable s = of_operand (knows_variable s)

abbrev pub token_record : Scope → Token → Bool
token_record s = of_operand (knows_record s)

abbrev pub knows_variables : Scope → List Token → Bool
knows_variables s = list_all (token_variable s)

abbrev pub knows_records : Scope → List Token → Bool
knows_records s = list_all (token_record s)
