-- The syntax tree that a value of the code is.
use Rattle.std.specs.Prelude.{List, [], ◌∷◌, map}
use Rattle.session_meaning.specs.declared.tree.Condition.{Condition}
use Rattle.session_meaning.specs.declared.tree.Statement.{Statement, Let, Set, Give, Require, If', IfElse', Repeat', Row_of-Statement, end_of-Statement, more_of-Statement}
use Rattle.session_meaning.specs.Tree.{Test, Command, LetVar, SetTo, GiveOf, Requires, When, Choice, Loop, Block, Nothing, Then}

abbrev pub test_of : Condition → Test
test_of c = record { left = c.left; comparison = c.comparison; right = c.right }

abbrev mutual
  pub command_of : Statement → Command
  command_of (Let place e) = LetVar place e
  command_of (Set r e) = SetTo r e
  command_of (Give e) = GiveOf e
  command_of (Require c code) = Requires (test_of c.value) code
  command_of (If' c s body) = When (test_of c.value) (row_block body)
  command_of (IfElse' c s first t second) = Choice (test_of c.value) (row_block first) (row_block second)
  command_of (Repeat' n s body) = Loop n (row_block body)

  pub row_block : {m : _} → Row_of-Statement m → Block
  row_block end_of-Statement = Nothing
  row_block (more_of-Statement s rest) = Then (command_of s) (row_block rest)

abbrev pub block_from : List Command → Block
block_from [] = Nothing
block_from (c ∷ rest) = Then c (block_from rest)

-- the block that a list of statements is
abbrev pub block_of : List Statement → Block
block_of statements = block_from (map command_of statements)
