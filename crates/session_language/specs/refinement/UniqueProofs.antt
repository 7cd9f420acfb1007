-- Each fact on the statements of a session has one proof at most, as a fact that a value of the code carries must.
use Rattle.std.specs.Prelude.{ℕ, suc, ℤ, pos, negsuc, List, [], ◌∷◌, length}
use Rattle.std.specs.Coded.{×_prop, Unit-prop, le_prop}
use Rattle.std.proofs.Props.{props}
use Rattle.bottle_values.specs.declared.Value.{Value}
use Rattle.bottle_values.specs.declared.Value.TheVariants.{Number, Text}
use Rattle.session_meaning.specs.Tree.{Term, Constant, Var, ReadOf, Neg, Bin, Test, Command, LetVar, SetTo, GiveOf, Requires, When, Choice, Loop, Block, Nothing, Then}
use Rattle.session_programs.specs.WellFormed.{IsUnsigned, IsLiteral, IsOver, IsExpressionOver, IsTestOver, IsStatementOver, known_after, known_after_block, AreStatements}
use Rattle.session_meaning.specs.refinement.TreeOfStatements.{block_from}
use Rattle.session_language.specs.Reading.{Head, IfHead, ElseHead, RepeatHead, OpenBlock, Draft}
use Rattle.session_language.specs.refinement.KeptDraft.{known_in, IsHeadOver, AreOpen, IsKept}

unsigned-prop : (z : ℤ) → IsProp (IsUnsigned z)
unsigned-prop (pos n) = Prim.hlevel props
unsigned-prop (negsuc n) = Prim.hlevel props

literal-prop : (v : Value) → IsProp (IsLiteral v)
literal-prop (Number z) = unsigned-prop z
literal-prop (Text t) = Prim.hlevel props

over-prop : (known : ℕ) (e : Term) → IsProp (IsOver known e)
over-prop known (Constant v) = literal-prop v
over-prop known (Var k) = Prim.hlevel props
over-prop known (ReadOf r) = Unit-prop
over-prop known (Neg e) = over-prop known e
over-prop known (Bin o a b) = ×_prop (over-prop known a) (over-prop known b)

expression-prop : (known : ℕ) (e : Term) → IsProp (IsExpressionOver known e)
expression-prop known e = ×_prop (over-prop known e) le_prop

test-prop : (known : ℕ) (t : Test) → IsProp (IsTestOver known t)
test-prop known t = ×_prop (expression-prop known t.left) (expression-prop known t.right)

mutual
  statement-prop : (around known : ℕ) (c : Command) → IsProp (IsStatementOver around known c)
  statement-prop around known (LetVar k e) = ×_prop le_prop (expression-prop known e)
  statement-prop around known (SetTo r e) = expression-prop known e
  statement-prop around known (GiveOf e) = expression-prop known e
  statement-prop around known (Requires t code) = ×_prop (test-prop known t) le_prop
  statement-prop around known (When t b) = Prim.hlevel (props, test-prop known t, statements-prop (suc around) known b)
  statement-prop around known (Choice t a b) = Prim.hlevel (props, test-prop known t, statements-prop (suc around) known a, statements-prop (suc around) (known_after_block known a) b)
  statement-prop around known (Loop n b) = Prim.hlevel (props, statements-prop (suc around) known b)

  statements-prop : (around known : ℕ) (b : Block) → IsProp (AreStatements around known b)
  statements-prop around known Nothing = Unit-prop
  statements-prop around known (Then c rest) = ×_prop (statement-prop around known c) (statements-prop around (known_after known c) rest)

head-prop : (around known : ℕ) (h : Head) → IsProp (IsHeadOver around known h)
head-prop around known (IfHead t) = test-prop known t
head-prop around known (ElseHead t first) = ×_prop (test-prop known t) (statements-prop around known first)
head-prop around known (RepeatHead n) = le_prop

open-prop : (outer : List OpenBlock) → IsProp (AreOpen outer)
open-prop [] = Unit-prop
open-prop (b ∷ outer) = Prim.hlevel (props, statements-prop (length outer) (known_in outer) (block_from b.before), head-prop (suc (length outer)) (known_after_block (known_in outer) (block_from b.before)) b.head, open-prop outer)

pub kept-prop : (d : Draft) → IsProp (IsKept d)
kept-prop d = Prim.hlevel (props, open-prop d.outer, statements-prop (length d.outer) (known_in d.outer) (block_from d.body))
