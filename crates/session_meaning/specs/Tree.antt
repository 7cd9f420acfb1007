-- Syntax trees, without where they lie in memory.
use Rattle.std.specs.Prelude.{ℕ}
use Rattle.bottle_values.specs.declared.Value.{Value}
use Rattle.session_meaning.specs.declared.node.Operator.{Operator}
use Rattle.session_meaning.specs.declared.node.Comparison.{Comparison}

-- An expression as a tree: a constant, a variable by its place in the session's list of variables, a record that is
-- read, a minus, or an operator over two.
pub data Term : Type 0 where
  Constant : (v : Value) → Term
  Var : (place : ℕ) → Term
  ReadOf : (r : ℕ) → Term
  Neg : (e : Term) → Term
  Bin : (op : Operator) (a b : Term) → Term

pub record Test : Type 0 where
  pub left : Term
  pub comparison : Comparison
  pub right : Term

mutual
  -- a statement
  pub data Command : Type 0 where
    LetVar : (place : ℕ) (e : Term) → Command
    SetTo : (r : ℕ) (e : Term) → Command
    GiveOf : (e : Term) → Command
    Requires : (t : Test) (code : ℕ) → Command
    When : (t : Test) (body : Block) → Command
    Choice : (t : Test) (first second : Block) → Command
    Loop : (turns : ℕ) (body : Block) → Command

  -- statements, one after another
  pub data Block : Type 0 where
    Nothing : Block
    Then : (first : Command) (rest : Block) → Block
