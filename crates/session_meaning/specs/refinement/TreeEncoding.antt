-- A proof tells trees apart by their postfix lists: of expressions, and of statements.
use Rattle.std.specs.Prelude.{◌≡◌, ℕ, List, [], ◌∷◌, ◌++◌, refl}
use Rattle.std.specs.Coded.{Coded, code_by, coded_list}
use Rattle.session_meaning.specs.declared.node.Node.{Node}
use Rattle.std.proofs.Common.{ap, ◌∙◌}
use Rattle.session_meaning.specs.Tree.{Term, Test, Command, LetVar, SetTo, GiveOf, Requires, When, Choice, Loop, Block, Nothing, Then}
use Rattle.session_meaning.specs.refinement.Postfix.{postfix, tree_of, tree_of-postfix}

abbrev pub term_code : Coded Node → Coded Term
term_code nodes = code_by (List Node) (coded_list nodes) postfix tree_of tree_of-postfix

-- a statement after its blocks, with its expressions
pub data Mark : Type 0 where
  MLet : (place : ℕ) (e : Term) → Mark
  MSet : (r : ℕ) (e : Term) → Mark
  MGive : (e : Term) → Mark
  MRequire : (t : Test) (code : ℕ) → Mark
  MWhen : (t : Test) → Mark
  MChoice : (t : Test) → Mark
  MLoop : (turns : ℕ) → Mark
  MNothing : Mark
  MThen : Mark

pub data Item : Type 0 where
  ACommand : (c : Command) → Item
  ABlock : (b : Block) → Item

abbrev mutual
  pub command_marks : Command → List Mark
  command_marks (LetVar k e) = MLet k e ∷ []
  command_marks (SetTo r e) = MSet r e ∷ []
  command_marks (GiveOf e) = MGive e ∷ []
  command_marks (Requires t code) = MRequire t code ∷ []
  command_marks (When t b) = block_marks b ++ MWhen t ∷ []
  command_marks (Choice t a b) = block_marks a ++ (block_marks b ++ MChoice t ∷ [])
  command_marks (Loop n b) = block_marks b ++ MLoop n ∷ []

  pub block_marks : Block → List Mark
  block_marks Nothing = MNothing ∷ []
  block_marks (Then c rest) = command_marks c ++ (block_marks rest ++ MThen ∷ [])

-- one mark, on the parts that were read before it
abbrev pub push_mark : Mark → List Item → List Item
push_mark (MLet k e) st = ACommand (LetVar k e) ∷ st
push_mark (MSet r e) st = ACommand (SetTo r e) ∷ st
push_mark (MGive e) st = ACommand (GiveOf e) ∷ st
push_mark (MRequire t code) st = ACommand (Requires t code) ∷ st
push_mark (MWhen t) (ABlock b ∷ st) = ACommand (When t b) ∷ st
push_mark (MChoice t) (ABlock b ∷ ABlock a ∷ st) = ACommand (Choice t a b) ∷ st
push_mark (MLoop n) (ABlock b ∷ st) = ACommand (Loop n b) ∷ st
push_mark MNothing st = ABlock Nothing ∷ st
push_mark MThen (ABlock rest ∷ ACommand c ∷ st) = ABlock (Then c rest) ∷ st
push_mark m st = []

abbrev pub push_marks : List Mark → List Item → List Item
push_marks [] st = st
push_marks (m ∷ ms) st = push_marks ms (push_mark m st)

push_marks-append : (xs ys : List Mark) (st : List Item) → push_marks (xs ++ ys) st ≡ push_marks ys (push_marks xs st)
push_marks-append [] ys st = refl
push_marks-append (x ∷ xs) ys st = push_marks-append xs ys (push_mark x st)

mutual
  put_command : (c : Command) (st : List Item) → push_marks (command_marks c) st ≡ ACommand c ∷ st
  put_command (LetVar k e) st = refl
  put_command (SetTo r e) st = refl
  put_command (GiveOf e) st = refl
  put_command (Requires t code) st = refl
  put_command (When t b) st = push_marks-append (block_marks b) _ st ∙ ap (push_marks (MWhen t ∷ [])) (put_block b st)
  put_command (Choice t a b) st =
      push_marks-append (block_marks a) _ st ∙ ap (push_marks (block_marks b ++ MChoice t ∷ [])) (put_block a st)
      ∙ push_marks-append (block_marks b) _ _ ∙ ap (push_marks (MChoice t ∷ [])) (put_block b (ABlock a ∷ st))
  put_command (Loop n b) st = push_marks-append (block_marks b) _ st ∙ ap (push_marks (MLoop n ∷ [])) (put_block b st)

  put_block : (b : Block) (st : List Item) → push_marks (block_marks b) st ≡ ABlock b ∷ st
  put_block Nothing st = refl
  put_block (Then c rest) st =
      push_marks-append (command_marks c) _ st ∙ ap (push_marks (block_marks rest ++ MThen ∷ [])) (put_command c st)
      ∙ push_marks-append (block_marks rest) _ _ ∙ ap (push_marks (MThen ∷ [])) (put_block rest (ACommand c ∷ st))

abbrev pub block_on : List Item → Block
block_on (ABlock b ∷ []) = b
block_on st = Nothing

pub block_again : (b : Block) → block_on (push_marks (block_marks b) []) ≡ b
block_again b = ap block_on (put_block b [])

abbrev pub block_code : Coded Mark → Coded Block
block_code marks = code_by (List Mark) (coded_list marks) block_marks (λ ms. block_on (push_marks ms [])) block_again
