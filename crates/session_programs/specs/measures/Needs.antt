-- The records that a program needs: all that it reads or sets anywhere, each once, in order of number.
use Rattle.std.specs.Prelude.{ℕ, List, [], ◌∷◌, if◌then◌else◌, nat_lt, ◌==◌}
use Rattle.session_meaning.specs.declared.node.Node.{Node}
use Rattle.session_meaning.specs.declared.node.Node.TheVariants.{Literal, Variable, Read, Negate, Apply}
use Rattle.session_meaning.specs.Tree.{Term, Constant, Var, ReadOf, Neg, Bin, Test, Command, LetVar, SetTo, GiveOf, Requires, When, Choice, Loop, Block, Nothing, Then}

-- a list in order with one more record in its place, unless it is there
abbrev pub with_record : ℕ → List ℕ → List ℕ
with_record r [] = r ∷ []
with_record r (s ∷ rest) = if nat_lt r s then r ∷ s ∷ rest else if r == s then s ∷ rest else s ∷ with_record r rest

-- and with those that an expression reads
abbrev pub term_needs : Term → List ℕ → List ℕ
term_needs (Constant v) rs = rs
term_needs (Var k) rs = rs
term_needs (ReadOf r) rs = with_record r rs
term_needs (Neg e) rs = term_needs e rs
term_needs (Bin o a b) rs = term_needs b (term_needs a rs)

abbrev pub test_needs : Test → List ℕ → List ℕ
test_needs t rs = term_needs t.right (term_needs t.left rs)

abbrev mutual
  pub command_needs : Command → List ℕ → List ℕ
  command_needs (LetVar k e) rs = term_needs e rs
  command_needs (SetTo r e) rs = term_needs e (with_record r rs)
  command_needs (GiveOf e) rs = term_needs e rs
  command_needs (Requires t code) rs = test_needs t rs
  command_needs (When t b) rs = block_needs b (test_needs t rs)
  command_needs (Choice t a b) rs = block_needs b (block_needs a (test_needs t rs))
  command_needs (Loop n b) rs = block_needs b rs

  pub block_needs : Block → List ℕ → List ℕ
  block_needs Nothing rs = rs
  block_needs (Then c rest) rs = block_needs rest (command_needs c rs)

-- the records that statements need, one statement after another
abbrev pub needs_of : Block → List ℕ
needs_of b = block_needs b []

-- the same of an expression in postfix order
abbrev pub nodes_needs : List Node → List ℕ → List ℕ
nodes_needs [] rs = rs
nodes_needs (Literal v ∷ ns) rs = nodes_needs ns rs
nodes_needs (Variable k ∷ ns) rs = nodes_needs ns rs
nodes_needs (Read r ∷ ns) rs = nodes_needs ns (with_record r rs)
nodes_needs (Negate ∷ ns) rs = nodes_needs ns rs
nodes_needs (Apply o ∷ ns) rs = nodes_needs ns rs
