-- The measures of a session, exact, by recursion on its tree.
use Rattle.std.specs.Prelude.{ℕ, ◌+◌, ◌*◌, max}
use Rattle.session_meaning.specs.Tree.{Term, Constant, Var, ReadOf, Neg, Bin, Test, Command, LetVar, SetTo, GiveOf, Requires, When, Choice, Loop, Block, Nothing, Then}

abbrev pub nodes : Term → ℕ
nodes (Constant v) = 1
nodes (Var k) = 1
nodes (ReadOf r) = 1
nodes (Neg e) = 1 + nodes e
nodes (Bin o a b) = 1 + nodes a + nodes b

abbrev pub test_nodes : Test → ℕ
test_nodes t = 1 + nodes t.left + nodes t.right

-- an `if` costs its dearer part, a `repeat` its body and 1 for each turn
abbrev mutual
  pub cost : Command → ℕ
  cost (LetVar k e) = 1 + nodes e
  cost (SetTo r e) = 1 + nodes e
  cost (GiveOf e) = 1 + nodes e
  cost (Requires t code) = 1 + test_nodes t
  cost (When t b) = 1 + test_nodes t + block_cost b
  cost (Choice t a b) = 1 + test_nodes t + max (block_cost a) (block_cost b)
  cost (Loop n b) = 1 + n * (1 + block_cost b)

  -- what statements cost, one after another
  pub block_cost : Block → ℕ
  block_cost Nothing = 0
  block_cost (Then c rest) = cost c + block_cost rest

-- how many values are given at most
abbrev mutual
  pub gives : Command → ℕ
  gives (LetVar k e) = 0
  gives (SetTo r e) = 0
  gives (GiveOf e) = 1
  gives (Requires t code) = 0
  gives (When t b) = block_gives b
  gives (Choice t a b) = max (block_gives a) (block_gives b)
  gives (Loop n b) = n * block_gives b

  -- how many values statements give at most
  pub block_gives : Block → ℕ
  block_gives Nothing = 0
  block_gives (Then c rest) = gives c + block_gives rest

-- the statements of the text, those in blocks included
abbrev mutual
  pub statements : Command → ℕ
  statements (LetVar k e) = 1
  statements (SetTo r e) = 1
  statements (GiveOf e) = 1
  statements (Requires t code) = 1
  statements (When t b) = 1 + block_statements b
  statements (Choice t a b) = 1 + block_statements a + block_statements b
  statements (Loop n b) = 1 + block_statements b

  -- how many statements these are, those in blocks included
  pub block_statements : Block → ℕ
  block_statements Nothing = 0
  block_statements (Then c rest) = statements c + block_statements rest
