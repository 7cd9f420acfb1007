-- A program as contracts see it: its office, the names of its variables in the order in which lines first name them,
-- and its statements.
use Rattle.std.specs.Prelude.{ℕ, List}
use Rattle.session_meaning.specs.Tree.{Block}

-- the number of its office, the names of its variables, and its statements as a tree
pub record ProgramValue : Type 0 where
  pub office : ℕ
  pub variables : List (List ℕ)
  pub body : Block
