-- Sums and products that stop growing past a limit.
use Rattle.std.proofs.Common.{◌≡◌, ◌≤◌, ◌<◌, ◌+◌, ◌*◌, ℕ, zero, suc, min, max, arith, refl, Bool, true, false, nat_le, [], ◌∷◌, ◌++◌, length, length-append}
use Rattle.std.proofs.lemmas.Bool.Decides.{nat_tests}
use Rattle.session_meaning.specs.Tree.{Term, Constant, Var, ReadOf, Neg, Bin}
use Rattle.session_meaning.specs.refinement.Postfix.{postfix}
use Rattle.session_meaning.specs.declared.node.Node.TheVariants.{Negate, Apply}
use Rattle.session_programs.specs.measures.Measures.{nodes}

turns_by : (n b c : ℕ) (inside : Bool) → nat_le b 10001 ≡ inside → c ≡ min 10001 b → min 10001 (1 + suc n * (1 + c)) ≡ min 10001 (1 + suc n * (1 + b))
turns_by n b c true h e = let k : c ≡ b = grind (arith, nat_tests) in rw k refl
turns_by n b c false h e =
    let far : 10001 < b = grind (arith, nat_tests) in
    let x : 10001 ≤ 1 + suc n * (1 + c) = grind arith in
    let y : 10001 ≤ 1 + suc n * (1 + b) = grind arith in omega arith

pub capped_turns : (n b : ℕ) → min 10001 (1 + n * (1 + min 10001 b)) ≡ min 10001 (1 + n * (1 + b))
capped_turns zero b = omega arith
capped_turns (suc n) b = turns_by n b (min 10001 b) (nat_le b 10001) refl refl

-- an expression has as many nodes as its list in postfix order
pub nodes_are : (e : Term) → length (postfix e) ≡ nodes e
nodes_are (Constant v) = refl
nodes_are (Var k) = refl
nodes_are (ReadOf r) = refl
nodes_are (Neg e) = omega (arith, length-append (postfix e) (Negate ∷ []), nodes_are e)
nodes_are (Bin o a b) = omega (arith, length-append (postfix a) (postfix b ++ Apply o ∷ []), length-append (postfix b) (Apply o ∷ []), nodes_are a, nodes_are b)

given_by : (n b c : ℕ) (inside : Bool) → nat_le b 10001 ≡ inside → c ≡ min 10001 b → min 10001 (suc n * c) ≡ min 10001 (suc n * b)
given_by n b c true h e = let k : c ≡ b = grind (arith, nat_tests) in rw k refl
given_by n b c false h e =
    let far : 10001 < b = grind (arith, nat_tests) in
    let x : 10001 ≤ suc n * c = grind arith in
    let y : 10001 ≤ suc n * b = grind arith in omega arith

pub capped_gives : (n b : ℕ) → min 10001 (n * min 10001 b) ≡ min 10001 (n * b)
capped_gives zero b = omega arith
capped_gives (suc n) b = given_by n b (min 10001 b) (nat_le b 10001) refl refl

-- ---- sums and the larger of two, of what stopped growing

pub one_capped : (b y : ℕ) → b ≡ min 10001 y → min 10001 (1 + b) ≡ min 10001 (1 + y)
one_capped b y e = omega arith

pub head_capped : (t u b y : ℕ) → t ≡ min 10001 u → b ≡ min 10001 y → min 10001 (1 + t + b) ≡ min 10001 (1 + u + y)
head_capped t u b y e f = omega arith

pub larger_capped : (a x b y : ℕ) → a ≡ min 10001 x → b ≡ min 10001 y → max a b ≡ min 10001 (max x y)
larger_capped a x b y e f = omega arith

pub part_capped : (t u a x b y : ℕ) → t ≡ min 10001 u → a ≡ min 10001 x → b ≡ min 10001 y → min 10001 (1 + t + max a b) ≡ min 10001 (1 + u + max x y)
part_capped t u a x b y e f g = omega arith

pub both_capped : (a x b y : ℕ) → a ≡ min 10001 x → b ≡ min 10001 y → min 10001 (1 + min 10001 (a + b)) ≡ min 10001 (1 + x + y)
both_capped a x b y e f = omega arith

pub parts_capped : (t u a x b y : ℕ) → t ≡ min 10001 u → a ≡ min 10001 x → b ≡ min 10001 y → min 10001 (1 + t + min 10001 (a + b)) ≡ min 10001 (1 + u + x + y)
parts_capped t u a x b y e f g = omega arith

-- what those so far have is few, and makes with what the rest has what all have: at the start, one more, and at the end
pub start_capped : (s all : ℕ) → s ≡ 0 → (s ≤ 10001) × (min 10001 (s + all) ≡ min 10001 all)
start_capped s all e = (omega arith, omega arith)

pub more_capped : (t s c x rest all : ℕ) → s ≡ min 10001 (t + c) → c ≡ min 10001 x → (t ≤ 10001) × (min 10001 (t + (x + rest)) ≡ all) → (s ≤ 10001) × (min 10001 (s + rest) ≡ all)
more_capped t s c x rest all e f g = (omega arith, omega (arith, g.1))

pub end_capped : (s all : ℕ) → (s ≤ 10001) × (min 10001 (s + 0) ≡ all) → s ≡ all
end_capped s all g = omega (arith, g.0, g.1)
