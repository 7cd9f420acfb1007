-- An expression as it is spelled: its names are still text.
use Rattle.std.specs.Prelude.{ℕ, List}
use Rattle.session_meaning.specs.declared.node.Operator.{Operator}

pub data Operand : Type 0 where
  ANumber : (n : ℕ) → Operand
  AText : (bytes : List ℕ) → Operand
  AVariable : (name : List ℕ) → Operand
  -- `read` and a record's name
  ARecord : (name : List ℕ) → Operand

pub data Spelled : Type 0 where
  Plain : (x : Operand) → Spelled
  Negative : (e : Spelled) → Spelled
  Binary : (op : Operator) (a b : Spelled) → Spelled

pub data Token : Type 0 where
  Leaf : (x : Operand) → Token
  Plus : Token
  Minus : Token
  Times : Token
  Open : Token
  Close : Token
