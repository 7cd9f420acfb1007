-- Which sessions a run of a version has: under version 1 none with a text.
use Rattle.std.specs.Prelude.{ℕ, Bool, true, ◌&&◌, List, All, IsTrue}
use Rattle.bottle_values.specs.declared.Value.{Value}
use Rattle.bottle_values.specs.declared.version.Version.{Version}
use Rattle.bottle_values.specs.Versions.{admits}
use Rattle.session_meaning.specs.Tree.{Term, Constant, Var, ReadOf, Neg, Bin, Test, Command, LetVar, SetTo, GiveOf, Requires, When, Choice, Loop, Block, Nothing, Then}

-- whether each constant of an expression is one of a run of this version
abbrev pub term_fits : Version → Term → Bool
term_fits v (Constant x) = admits v x
term_fits v (Var place) = true
term_fits v (ReadOf r) = true
term_fits v (Neg e) = term_fits v e
term_fits v (Bin op a b) = term_fits v a && term_fits v b

-- the same of both sides of a condition
abbrev pub test_fits : Version → Test → Bool
test_fits v t = term_fits v t.left && term_fits v t.right

abbrev mutual
  -- the same of a statement, with the blocks that it holds
  pub command_fits : Version → Command → Bool
  command_fits v (LetVar place e) = term_fits v e
  command_fits v (SetTo r e) = term_fits v e
  command_fits v (GiveOf e) = term_fits v e
  command_fits v (Requires t code) = test_fits v t
  command_fits v (When t body) = test_fits v t && block_fits v body
  command_fits v (Choice t first second) = test_fits v t && (block_fits v first && block_fits v second)
  command_fits v (Loop n body) = block_fits v body

  -- whether statements are those of a session in a run of this version
  pub block_fits : Version → Block → Bool
  block_fits v Nothing = true
  block_fits v (Then c rest) = command_fits v c && block_fits v rest

-- these values are those of a run of this version
abbrev pub AllFit : Version → List Value → Type 0
AllFit v values = All (λ x. IsTrue (admits v x)) values

-- so are those of these records
abbrev pub RecordsFit : Version → List (ℕ × Value) → Type 0
RecordsFit v records = All (λ w. IsTrue (admits v w.1)) records
