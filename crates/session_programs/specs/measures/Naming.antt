-- Which records a session names.
use Rattle.std.specs.Prelude.{◌≡◌, ◌⊎◌, ℕ}
use Rattle.session_meaning.specs.Tree.{Term, Constant, Var, ReadOf, Neg, Bin, Test, Command, LetVar, SetTo, GiveOf, Requires, When, Choice, Loop, Block, Nothing, Then}

-- an expression reads this record
abbrev pub Reads : ℕ → Term → Type 0
Reads r (Constant v) = ⊥
Reads r (Var k) = ⊥
Reads r (ReadOf s) = s ≡ r
Reads r (Neg e) = Reads r e
Reads r (Bin o a b) = Reads r a ⊎ Reads r b

abbrev pub TestReads : ℕ → Test → Type 0
TestReads r t = Reads r t.left ⊎ Reads r t.right

-- a statement reads this record or sets it, itself or in one of its blocks
abbrev mutual
  pub Names : ℕ → Command → Type 0
  Names r (LetVar k e) = Reads r e
  Names r (SetTo s e) = (s ≡ r) ⊎ Reads r e
  Names r (GiveOf e) = Reads r e
  Names r (Requires t code) = TestReads r t
  Names r (When t b) = TestReads r t ⊎ BlockNames r b
  Names r (Choice t a b) = (TestReads r t ⊎ BlockNames r a) ⊎ BlockNames r b
  Names r (Loop n b) = BlockNames r b

  -- some statement of these reads this record or sets it
  pub BlockNames : ℕ → Block → Type 0
  BlockNames r Nothing = ⊥
  BlockNames r (Then c rest) = Names r c ⊎ BlockNames r rest
