-- What is held and shared, where one thing came or went.
use Rattle.std.proofs.Common.{◌≡◌, ◌≤◌, Bool, true, false, ◌&&◌, ◌||◌, cond, List, [], ◌∷◌, length, refl, sym, ap, ◌∙◌, arith}
use Rattle.std.proofs.lemmas.Bool.{cond_both}
use Rattle.token_channel.specs.declared.thing.Thing.{Thing}
use Rattle.token_channel.specs.declared.thing.SharedThing.{SharedThing}
use Rattle.token_channel.specs.Things.{same}
use Rattle.token_channel.specs.ThingLaws.{same_is}
use Rattle.token_channel.specs.Places.{holds, shares, with_held, changed}
use Rattle.bottle_values.specs.Lists.{num}

not_same : (t u v : Thing) → same t u ≡ true → same v u ≡ false → same t v ≡ false
not_same t u v e n = elim_same (same t v) refl
  where
    elim_same : (b : Bool) → same t v ≡ b → b ≡ false
    elim_same true h =
        let tu : t ≡ u = same_is t u e in
        let tv : t ≡ v = same_is t v h in
        let vu : same v u ≡ true = ap (λ x. same x u) (sym tv) ∙ e in
        sym vu ∙ n
    elim_same false h = refl

-- ---- one place

or_and : (x b : Bool) → (b || (x && b)) ≡ b
or_and x true = refl
or_and true false = refl
or_and false false = refl

holds_here : (p : SharedThing) (t : Thing) (b rest : Bool) → (same (with_held t b p).thing t && (with_held t b p).held) || (rest && b) ≡ ((same p.thing t || rest) && b)
holds_here p t b rest = go (same p.thing t) refl
  where
    place : Bool → SharedThing
    place s = cond s (record { thing = p.thing; held = b }) p

    go : (s : Bool) → same p.thing t ≡ s → (same (place s).thing t && (place s).held) || (rest && b) ≡ ((s || rest) && b)
    go true h = ap (λ x. (x && b) || (rest && b)) h ∙ or_and rest b
    go false h = ap (λ x. (x && p.held) || (rest && b)) h

-- what came or went is held as said
pub holds-changed : (places : List SharedThing) (t : Thing) (b : Bool) → holds (changed places t b) t ≡ (shares places t && b)
holds-changed [] t b = refl
holds-changed (p ∷ places) t b =
    ap (λ x. (same (with_held t b p).thing t && (with_held t b p).held) || x) (holds-changed places t b) ∙ holds_here p t b (shares places t)

other_here : (p : SharedThing) (t u : Thing) (b : Bool) → same u t ≡ false → (same (with_held t b p).thing u && (with_held t b p).held) ≡ (same p.thing u && p.held)
other_here p t u b n = go (same p.thing t) refl
  where
    place : Bool → SharedThing
    place s = cond s (record { thing = p.thing; held = b }) p

    go : (s : Bool) → same p.thing t ≡ s → (same (place s).thing u && (place s).held) ≡ (same p.thing u && p.held)
    go true h = ap (λ x. x && b) (not_same p.thing t u h n) ∙ ap (λ x. x && p.held) (sym (not_same p.thing t u h n))
    go false h = refl

-- and every other thing as before
pub holds-changed_other : (places : List SharedThing) (t u : Thing) (b : Bool) → same u t ≡ false → holds (changed places t b) u ≡ holds places u
holds-changed_other [] t u b n = refl
holds-changed_other (p ∷ places) t u b n =
    ap (λ x. x || holds (changed places t b) u) (other_here p t u b n) ∙ ap (λ x. (same p.thing u && p.held) || x) (holds-changed_other places t u b n)

shares_here : (p : SharedThing) (t : Thing) (b : Bool) → (with_held t b p).thing ≡ p.thing
shares_here p t b = cond_both {A = SharedThing} (same p.thing t) _ _ (λ q. q.thing ≡ p.thing) (λ yes. refl) (λ no. refl)

pub shares-changed : (places : List SharedThing) (t u : Thing) (b : Bool) → shares (changed places t b) u ≡ shares places u
shares-changed [] t u b = refl
shares-changed (p ∷ places) t u b =
    ap (λ x. same x u || shares (changed places t b) u) (shares_here p t b) ∙ ap (λ x. same p.thing u || x) (shares-changed places t u b)

pub length-changed : (places : List SharedThing) (t : Thing) (b : Bool) → length (changed places t b) ≡ length places
length-changed [] t b = refl
length-changed (p ∷ places) t b = omega (arith, length-changed places t b)

num_or : (a b c d : Bool) → (a ≡ true → c ≡ true) → num b ≤ num d → num (a || b) ≤ num (c || d)
num_or true b true d h k = omega arith
num_or true b false d h k = let e : false ≡ true = h refl in absurd cc
num_or false b true d h k = go b
  where
    go : (x : Bool) → num x ≤ 1
    go true = omega arith
    go false = omega arith
num_or false b false d h k = k

and_first : (a b : Bool) → (a && b) ≡ true → a ≡ true
and_first true b e = refl
and_first false b e = absurd cc

-- what is held is the pair's
pub holds_shared : (places : List SharedThing) (t : Thing) → num (holds places t) ≤ num (shares places t)
holds_shared [] t = omega arith
holds_shared (p ∷ places) t = num_or (same p.thing t && p.held) _ (same p.thing t) _ (and_first (same p.thing t) p.held) (holds_shared places t)
