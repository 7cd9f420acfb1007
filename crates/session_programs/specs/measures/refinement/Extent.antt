-- How many nodes and statements a text has, with the bytes of its texts, which bounds its bytes.
use Rattle.std.specs.Prelude.{ℕ, ◌+◌}
use Rattle.session_meaning.specs.Tree.{Term, Test, Command, LetVar, SetTo, GiveOf, Requires, When, Choice, Loop, Block, Nothing, Then}
use Rattle.session_meaning.specs.refinement.TextBytes.{term_bytes}
use Rattle.session_programs.specs.measures.Measures.{nodes}

abbrev pub term_extent : Term → ℕ
term_extent e = nodes e + term_bytes e

abbrev pub test_extent : Test → ℕ
test_extent t = 1 + term_extent t.left + term_extent t.right

abbrev mutual
  pub extent : Command → ℕ
  extent (LetVar k e) = 1 + term_extent e
  extent (SetTo r e) = 1 + term_extent e
  extent (GiveOf e) = 1 + term_extent e
  extent (Requires t code) = 1 + test_extent t
  extent (When t b) = 1 + test_extent t + block_extent b
  extent (Choice t a b) = 1 + test_extent t + block_extent a + block_extent b
  extent (Loop n b) = 1 + block_extent b

  pub block_extent : Block → ℕ
  block_extent Nothing = 0
  block_extent (Then c rest) = extent c + block_extent rest
