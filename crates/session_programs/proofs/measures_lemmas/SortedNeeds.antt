-- The needs of a program are in order, and are just the records that it names.
use Rattle.std.proofs.Common.{◌≡◌, ◌<◌, ◌==◌, ℕ, zero, suc, List, [], ◌∷◌, Bool, true, false, nat_lt, if◌then◌else◌, ◌⊎◌, inl, inr, Less, refl, sym, ◌∙◌, arith}
use Rattle.std.specs.Prelude.{Contains, ◌↔◌}
use Rattle.std.specs.List.{AllByRecursion}
use Rattle.std.specs.List.Sorted.{IsStrictlySortedBy, IsStrictlyIncreasing}
use Rattle.std.specs.Ordering.{nat_cmp}
use Rattle.std.specs.Cmp.{nat_cmp_is}
use Rattle.std.proofs.lemmas.Bool.Decides.{nat_tests}
use Rattle.std.proofs.lemmas.Map.Keys.{IsStrictlyIncreasing-from_sorted}
use Rattle.session_meaning.specs.Tree.{Term, Constant, Var, ReadOf, Neg, Bin, Test, Command, LetVar, SetTo, GiveOf, Requires, When, Choice, Loop, Block, Nothing, Then}
use Rattle.session_programs.specs.measures.Needs.{with_record, term_needs, test_needs, command_needs, block_needs, needs_of}
use Rattle.session_programs.specs.measures.Naming.{Reads, TestReads, Names, BlockNames}

-- all numbers of a list are above this one
abbrev Above : ℕ → List ℕ → Type 0
Above x [] = Unit {0}
Above x (y ∷ ys) = (x < y) × Above x ys

abbrev Rises : List ℕ → Type 0
Rises [] = Unit {0}
Rises (x ∷ xs) = Above x xs × Rises xs

above_all : (r s : ℕ) (rs : List ℕ) → r < s → Above s rs → Above r rs
above_all r s [] lt h = tt
above_all r s (x ∷ rs) lt h = (let l = h.0 in omega arith, above_all r s rs lt h.1)

above_with : (x r : ℕ) (rs : List ℕ) → x < r → Above x rs → Above x (with_record r rs)
above_with x r [] lt h = (lt, tt)
above_with x r (s ∷ rest) lt h = by_order (nat_lt r s) (r == s) (above_with x r rest lt h.1)
  where
    by_order : (b c : Bool) → Above x (with_record r rest) → Above x (if b then r ∷ s ∷ rest else if c then s ∷ rest else s ∷ with_record r rest)
    by_order true c more = (lt, h)
    by_order false true more = h
    by_order false false more = (h.0, more)

rises_with : (r : ℕ) (rs : List ℕ) → Rises rs → Rises (with_record r rs)
rises_with r [] h = (tt, tt)
rises_with r (s ∷ rest) h = by_order (nat_lt r s) (r == s) refl refl (rises_with r rest h.1)
  where
    by_order : (b c : Bool) → nat_lt r s ≡ b → (r == s) ≡ c → Rises (with_record r rest) → Rises (if b then r ∷ s ∷ rest else if c then s ∷ rest else s ∷ with_record r rest)
    by_order true c e f more = let lt : r < s = grind (e, arith, nat_tests) in ((lt, above_all r s rest lt h.0), h)
    by_order false true e f more = h
    by_order false false e f more = let lt : s < r = grind (e, f, arith, nat_tests) in (above_with s r rest lt h.0, more)

term_rises : (e : Term) (rs : List ℕ) → Rises rs → Rises (term_needs e rs)
term_rises (Constant v) rs h = h
term_rises (Var k) rs h = h
term_rises (ReadOf r) rs h = rises_with r rs h
term_rises (Neg e) rs h = term_rises e rs h
term_rises (Bin o a b) rs h = term_rises b (term_needs a rs) (term_rises a rs h)

test_rises : (t : Test) (rs : List ℕ) → Rises rs → Rises (test_needs t rs)
test_rises t rs h = term_rises t.right (term_needs t.left rs) (term_rises t.left rs h)

mutual
  command_rises : (c : Command) (rs : List ℕ) → Rises rs → Rises (command_needs c rs)
  command_rises (LetVar k e) rs h = term_rises e rs h
  command_rises (SetTo r e) rs h = term_rises e (with_record r rs) (rises_with r rs h)
  command_rises (GiveOf e) rs h = term_rises e rs h
  command_rises (Requires t code) rs h = test_rises t rs h
  command_rises (When t b) rs h = block_rises b (test_needs t rs) (test_rises t rs h)
  command_rises (Choice t a b) rs h = block_rises b (block_needs a (test_needs t rs)) (block_rises a (test_needs t rs) (test_rises t rs h))
  command_rises (Loop n b) rs h = block_rises b rs h

  block_rises : (b : Block) (rs : List ℕ) → Rises rs → Rises (block_needs b rs)
  block_rises Nothing rs h = h
  block_rises (Then c rest) rs h = block_rises rest (command_needs c rs) (command_rises c rs h)

compares : (x : ℕ) (xs : List ℕ) → Above x xs → AllByRecursion (λ y. nat_cmp x y ≡ Less) xs
compares x [] h = tt
compares x (y ∷ ys) h = (sym (nat_cmp_is x y Less h.0), compares x ys h.1)

sorted : (xs : List ℕ) → Rises xs → IsStrictlySortedBy nat_cmp xs
unfolding IsStrictlySortedBy
sorted [] h = tt
sorted (x ∷ xs) h = (compares x xs h.0, sorted xs h.1)

pub needs_increase : (b : Block) → IsStrictlyIncreasing (needs_of b)
needs_increase b = IsStrictlyIncreasing-from_sorted (needs_of b) (sorted (needs_of b) (block_rises b [] tt))

-- which numbers a list has
abbrev Among : ℕ → List ℕ → Type 0
Among x [] = ⊥
Among x (y ∷ ys) = (y ≡ x) ⊎ Among x ys

contained : (x : ℕ) (xs : List ℕ) → Among x xs → Contains xs x
contained x [] h = absurd h
contained x (y ∷ ys) (inl e) = (0, omega arith, e)
contained x (y ∷ ys) (inr h) = let c = contained x ys h in (suc c.0, (let lt = c.1 in omega arith), c.2)

among : (x : ℕ) (xs : List ℕ) → Contains xs x → Among x xs
among x [] (k, lt, e) = absurd (omega arith)
among x (y ∷ ys) (zero, lt, e) = inl e
among x (y ∷ ys) (suc k, lt, e) = inr (among x ys (k, omega arith, e))

-- nothing more
none : {A : Type 0} → A ↔ (⊥ ⊎ A)
none = (inr, past)
  where
    past : {A : Type 0} → ⊥ ⊎ A → A
    past (inl h) = absurd h
    past (inr h) = h

-- one after the other
both : {A B X Y Z : Type 0} → X ↔ (B ⊎ Y) → Y ↔ (A ⊎ Z) → X ↔ ((A ⊎ B) ⊎ Z)
both {A} {B} {X} {Y} {Z} f g = (λ x. into (f.0 x), out)
  where
    first : A ⊎ Z → (A ⊎ B) ⊎ Z
    first (inl a) = inl (inl a)
    first (inr z) = inr z

    into : B ⊎ Y → (A ⊎ B) ⊎ Z
    into (inl b) = inl (inr b)
    into (inr y) = first (g.0 y)

    out : (A ⊎ B) ⊎ Z → X
    out (inl (inl a)) = f.1 (inr (g.1 (inl a)))
    out (inl (inr b)) = f.1 (inl b)
    out (inr z) = f.1 (inr (g.1 (inr z)))

module _ (x : ℕ) where
  with_has : (r : ℕ) (rs : List ℕ) → Among x (with_record r rs) → (r ≡ x) ⊎ Among x rs
  with_has r [] h = h
  with_has r (s ∷ rest) h = by_order (nat_lt r s) (r == s) h (with_has r rest)
    where
      skip : (r ≡ x) ⊎ Among x rest → (r ≡ x) ⊎ Among x (s ∷ rest)
      skip (inl e) = inl e
      skip (inr m) = inr (inr m)

      last : (s ≡ x) ⊎ Among x (with_record r rest) → (Among x (with_record r rest) → (r ≡ x) ⊎ Among x rest) → (r ≡ x) ⊎ Among x (s ∷ rest)
      last (inl e) more = inr (inl e)
      last (inr m) more = skip (more m)

      by_order : (b c : Bool) → Among x (if b then r ∷ s ∷ rest else if c then s ∷ rest else s ∷ with_record r rest) → (Among x (with_record r rest) → (r ≡ x) ⊎ Among x rest) → (r ≡ x) ⊎ Among x (s ∷ rest)
      by_order true c g more = g
      by_order false true g more = inr g
      by_order false false g more = last g more

  has_with : (r : ℕ) (rs : List ℕ) → (r ≡ x) ⊎ Among x rs → Among x (with_record r rs)
  has_with r [] h = h
  has_with r (s ∷ rest) h = by_order (nat_lt r s) (r == s) refl h (has_with r rest)
    where
      same : r ≡ s → (r ≡ x) ⊎ Among x (s ∷ rest) → Among x (s ∷ rest)
      same f (inl e) = inl (sym f ∙ e)
      same f (inr m) = m

      last : (r ≡ x) ⊎ Among x (s ∷ rest) → ((r ≡ x) ⊎ Among x rest → Among x (with_record r rest)) → Among x (s ∷ with_record r rest)
      last (inl e) more = inr (more (inl e))
      last (inr (inl e)) more = inl e
      last (inr (inr m)) more = inr (more (inr m))

      by_order : (b c : Bool) → (r == s) ≡ c → (r ≡ x) ⊎ Among x (s ∷ rest) → ((r ≡ x) ⊎ Among x rest → Among x (with_record r rest)) → Among x (if b then r ∷ s ∷ rest else if c then s ∷ rest else s ∷ with_record r rest)
      by_order true c f g more = g
      by_order false true f g more = same (grind (f, arith, nat_tests)) g
      by_order false false f g more = last g more

  one : (r : ℕ) (rs : List ℕ) → Among x (with_record r rs) ↔ ((r ≡ x) ⊎ Among x rs)
  one r rs = (with_has r rs, has_with r rs)

  term_has : (e : Term) (rs : List ℕ) → Among x (term_needs e rs) ↔ (Reads x e ⊎ Among x rs)
  term_has (Constant v) rs = none
  term_has (Var k) rs = none
  term_has (ReadOf r) rs = one r rs
  term_has (Neg e) rs = term_has e rs
  term_has (Bin o a b) rs = both (term_has b (term_needs a rs)) (term_has a rs)

  test_has : (t : Test) (rs : List ℕ) → Among x (test_needs t rs) ↔ (TestReads x t ⊎ Among x rs)
  test_has t rs = both (term_has t.right (term_needs t.left rs)) (term_has t.left rs)

  mutual
    command_has : (c : Command) (rs : List ℕ) → Among x (command_needs c rs) ↔ (Names x c ⊎ Among x rs)
    command_has (LetVar k e) rs = term_has e rs
    command_has (SetTo r e) rs = both (term_has e (with_record r rs)) (one r rs)
    command_has (GiveOf e) rs = term_has e rs
    command_has (Requires t code) rs = test_has t rs
    command_has (When t b) rs = both (block_has b (test_needs t rs)) (test_has t rs)
    command_has (Choice t a b) rs = both (block_has b (block_needs a (test_needs t rs))) (both (block_has a (test_needs t rs)) (test_has t rs))
    command_has (Loop n b) rs = block_has b rs

    block_has : (b : Block) (rs : List ℕ) → Among x (block_needs b rs) ↔ (BlockNames x b ⊎ Among x rs)
    block_has Nothing rs = none
    block_has (Then c rest) rs = both (block_has rest (command_needs c rs)) (command_has c rs)

only : {A : Type 0} → A ⊎ ⊥ → A
only (inl a) = a
only (inr h) = absurd h

pub needs_are_named : (b : Block) (r : ℕ) → Contains (needs_of b) r ↔ BlockNames r b
needs_are_named b r = (λ c. only ((block_has r b []).0 (among r (needs_of b) c)), λ h. contained r (needs_of b) ((block_has r b []).1 (inl h)))
