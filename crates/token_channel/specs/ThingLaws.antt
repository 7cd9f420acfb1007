-- What follows of things, and of where they are.
use Rattle.std.proofs.Common.{◌≡◌, ℕ, zero, suc, ◌+◌, ◌≤◌, Bool, true, false, not, ◌&&◌, ◌||◌, cond, List, [], ◌∷◌, ◌++◌, length, drop, Option, Some, None, refl, sym, ap, ◌∙◌, arith}
use Rattle.std.proofs.lemmas.Bool.{eqb-true, eq-eqb}
use Rattle.bottle_values.specs.Lists.{num}
use Rattle.bottle_values.specs.ListLaws.{num_one}
use Rattle.frame_codec.specs.declared.message.Msg.{Msg}
use Rattle.token_channel.specs.declared.thing.Thing.{Thing}
use Rattle.token_channel.specs.declared.thing.Thing.TheVariants.{Fork as TheFork, ForkToken, Bottle as TheBottle, BottleToken}
use Rattle.token_channel.specs.declared.thing.SharedThing.{SharedThing}
use Rattle.token_channel.specs.Things.{same, thing_of, count_carrying}
use Rattle.token_channel.specs.Places.{holds, shares, waits, Apart}
use Rattle.token_channel.specs.Channels.{unless_breach}

pub same_self : (t : Thing) → same t t ≡ true
same_self TheFork = refl
same_self ForkToken = refl
same_self (TheBottle r) = eq-eqb r r refl
same_self (BottleToken r) = eq-eqb r r refl

pub same_is : (t u : Thing) → same t u ≡ true → t ≡ u
same_is TheFork TheFork e = refl
same_is ForkToken ForkToken e = refl
same_is (TheBottle r) (TheBottle q) e = ap TheBottle (eqb-true r q e)
same_is (BottleToken r) (BottleToken q) e = ap BottleToken (eqb-true r q e)
same_is TheFork ForkToken e = absurd cc
same_is TheFork (TheBottle q) e = absurd cc
same_is TheFork (BottleToken q) e = absurd cc
same_is ForkToken TheFork e = absurd cc
same_is ForkToken (TheBottle q) e = absurd cc
same_is ForkToken (BottleToken q) e = absurd cc
same_is (TheBottle r) TheFork e = absurd cc
same_is (TheBottle r) ForkToken e = absurd cc
same_is (TheBottle r) (BottleToken q) e = absurd cc
same_is (BottleToken r) TheFork e = absurd cc
same_is (BottleToken r) ForkToken e = absurd cc
same_is (BottleToken r) (TheBottle q) e = absurd cc

-- ---- messages that carry a thing

pub count_carrying-push : (t : Thing) (ms : List Msg) (m : Msg) → count_carrying t (ms ++ m ∷ []) ≡ count_carrying t ms + num (same t (thing_of m))
count_carrying-push t [] m = omega arith
count_carrying-push t (x ∷ ms) m = omega (arith, count_carrying-push t ms m)

pub count_carrying-drop : (t : Thing) (n : ℕ) (ms : List Msg) → count_carrying t (drop n ms) ≤ count_carrying t ms
count_carrying-drop t zero ms = omega arith
count_carrying-drop t (suc n) [] = omega arith
count_carrying-drop t (suc n) (m ∷ ms) = omega (arith, count_carrying-drop t n ms)

pub count_carrying-none : (t : Thing) (ms : List Msg) → waits t ms ≡ false → count_carrying t ms ≡ 0
count_carrying-none t [] e = refl
count_carrying-none t (m ∷ ms) e = go (same t (thing_of m)) refl e (count_carrying-none t ms)
  where
    go : (b : Bool) → same t (thing_of m) ≡ b → (b || waits t ms) ≡ false → (waits t ms ≡ false → count_carrying t ms ≡ 0) → num (same t (thing_of m)) + count_carrying t ms ≡ 0
    go true h f rest = absurd cc
    go false h f rest = omega (arith, ap num h, rest f)

-- ---- room

num_true : (b : Bool) → b ≡ true → num b ≡ 1
num_true b e = ap num e

-- how often the places' things are carried, and how many are held
carried : List SharedThing → List Msg → ℕ
carried [] ms = 0
carried (p ∷ places) ms = count_carrying p.thing ms + carried places ms

held_places : List SharedThing → ℕ
held_places [] = 0
held_places (p ∷ places) = num p.held + held_places places

num_or-le : (a b : Bool) → num (a || b) ≤ num a + num b
num_or-le true b = omega arith
num_or-le false b = omega arith

carried-cons : (places : List SharedThing) (m : Msg) (ms : List Msg) → num (shares places (thing_of m)) + carried places ms ≤ carried places (m ∷ ms)
unfolding carried
carried-cons [] m ms = omega arith
carried-cons (p ∷ places) m ms = omega (arith, carried-cons places m ms, num_or-le (same p.thing (thing_of m)) (shares places (thing_of m)))

-- every message carries a thing of some place
all_carried : (places : List SharedThing) (ms : List Msg) → ((t : Thing) → count_carrying t ms ≤ num (shares places t)) → length ms ≤ carried places ms
all_carried places [] h = omega arith
all_carried places (m ∷ ms) h =
    omega (
      arith,
      all_carried places ms (λ t. omega (arith, h t)),
      carried-cons places m ms,
      h (thing_of m),
      num_true _ (same_self (thing_of m)),
    )

num_or_right : (a b : Bool) → num b ≤ num (a || b)
num_or_right true b = num_one b
num_or_right false b = omega arith

num_held : (a b c : Bool) → a ≡ true → num b ≤ num ((a && b) || c)
num_held true true c e = omega arith
num_held true false c e = omega arith
num_held false b c e = absurd cc

-- a place's thing is held or carried once
carried_free : (places : List SharedThing) (ms : List Msg) → ((t : Thing) → num (holds places t) + count_carrying t ms ≤ 1) → carried places ms + held_places places ≤ length places
unfolding carried held_places
carried_free [] ms h = omega arith
carried_free (p ∷ places) ms h =
    omega (
      arith,
      carried_free places ms (λ t. omega (arith, h t, num_or_right (same p.thing t && p.held) (holds places t))),
      h p.thing,
      num_held (same p.thing p.thing) p.held (holds places p.thing) (same_self p.thing),
    )

and_le : (a b : Bool) → num (a && b) ≤ num b
and_le true b = omega arith
and_le false b = omega arith

held_counted : (places : List SharedThing) (t : Thing) → num (holds places t) ≤ held_places places
unfolding held_places
held_counted [] t = omega arith
held_counted (p ∷ places) t = omega (arith, held_counted places t, num_or-le (same p.thing t && p.held) (holds places t), and_le (same p.thing t) p.held)

-- where a thing is held there is room for one more message
pub room : (places : List SharedThing) (ms : List Msg) (t : Thing) → Apart places ms → length ms + num (holds places t) ≤ length places
room places ms t h =
    omega (
      arith,
      all_carried places ms (λ u. omega (arith, h u)),
      carried_free places ms (λ u. omega (arith, h u, num_one (shares places u))),
      held_counted places t,
    )

-- ---- what is no breach

-- the thing is the pair's, and doesn't wait
pub no_breach : (shared held waiting : Bool) → (not shared || held || waiting) ≡ false → (shared ≡ true) × (waiting ≡ false)
no_breach true true w e = absurd cc
no_breach true false w e = (refl, e)
no_breach false h w e = absurd cc

pub follows_unbreached : (breach : Msg → Bool) (o : Option Msg) (m : Msg) → unless_breach breach o ≡ Some m → breach m ≡ false
follows_unbreached breach None m e = absurd cc
follows_unbreached breach (Some n) m e = go (breach n) refl e
  where
    go : (b : Bool) → breach n ≡ b → cond b None (Some n) ≡ Some m → breach m ≡ false
    go true h k = absurd cc
    go false h k = let same : n ≡ m = cc in ap breach (sym same) ∙ h
