-- How one message that goes or comes leaves the order of things and their request tokens, whatever it carries.
use Rattle.std.proofs.Common.{◌≡◌, ℕ, zero, suc, ◌+◌, ◌≤◌, Bool, true, false, not, cond, List, [], ◌∷◌, ◌++◌, Some, refl, sym, ap, ◌∙◌, arith, append-nil, eqb-true, lt-ltb}
use Rattle.std.specs.Prelude.{◌==◌, ◌&&◌, nat_lt}
use Rattle.std.proofs.lemmas.Bool.{and_parts, and_from}
use Rattle.bottle_values.specs.Lists.{num}
use Rattle.bottle_values.specs.Maps.{put}
use Rattle.frame_codec.specs.declared.message.Msg.{Msg}
use Rattle.token_channel.specs.declared.thing.Thing.{Thing}
use Rattle.token_channel.specs.Things.{thing_of, same, count_carrying, hold}
use Rattle.token_channel.specs.ThingLaws.{count_carrying-push}
use Rattle.site_core.specs.Pairs.{Pairs, held}
use Rattle.site_core.specs.neighbours.HeldLaws.{with_held}
use Rattle.frame_world.specs.Ways.{between}
use Rattle.frame_world.specs.RequestsFollow.{Follows, thing_goes_first}
use Rattle.frame_world.proofs.Links.{Goes, Comes, mail}
use Rattle.frame_world.proofs.PlacesAndForks.{places_of}
use Rattle.frame_world.proofs.WhatWaits.{lost}

-- ---- lists

-- without tokens
none_first : (thing token : Thing) (ms : List Msg) → count_carrying token ms ≡ 0 → thing_goes_first thing token ms ≡ true
none_first thing token [] e = refl
none_first thing token (m ∷ ms) e = go (same token (thing_of m)) refl (none_first thing token ms)
  where
    go : (b : Bool) → same token (thing_of m) ≡ b → (count_carrying token ms ≡ 0 → thing_goes_first thing token ms ≡ true) → (not (b && nat_lt 0 (count_carrying thing ms)) && thing_goes_first thing token ms) ≡ true
    go true i rest = absurd (omega (arith, e, ap num i))
    go false i rest = rest (omega (arith, e))

-- with one message more that isn't the thing's
pushed : (thing token : Thing) (ms : List Msg) (m : Msg) → same thing (thing_of m) ≡ false → thing_goes_first thing token ms ≡ true → thing_goes_first thing token (ms ++ m ∷ []) ≡ true
pushed thing token [] m e h = last (same token (thing_of m))
  where
    last : (b : Bool) → (not (b && nat_lt 0 0) && true) ≡ true
    last true = refl
    last false = refl
pushed thing token (x ∷ ms) m e h =
    let parts : (not (same token (thing_of x) && nat_lt 0 (count_carrying thing ms)) ≡ true) × (thing_goes_first thing token ms ≡ true) = and_parts (not (same token (thing_of x) && nat_lt 0 (count_carrying thing ms))) (thing_goes_first thing token ms) h in
    let as_many : count_carrying thing (ms ++ m ∷ []) ≡ count_carrying thing ms = omega (arith, count_carrying-push thing ms m, ap num e) in
    ap (λ n. not (same token (thing_of x) && nat_lt 0 n) && thing_goes_first thing token (ms ++ m ∷ [])) as_many
    ∙ and_from (not (same token (thing_of x) && nat_lt 0 (count_carrying thing ms))) (thing_goes_first thing token (ms ++ m ∷ [])) parts.0 (pushed thing token ms m e parts.1)

none_of : (n : ℕ) → not (nat_lt 0 n) ≡ true → n ≡ 0
none_of zero e = refl
none_of (suc n) e = let some : nat_lt 0 (suc n) ≡ true = lt-ltb 0 (suc n) (omega arith) in let no : false ≡ true = ap not (sym some) ∙ e in absurd cc

-- behind a token there is no thing
pub behind : (thing token : Thing) (m : Msg) (ms : List Msg) → same token (thing_of m) ≡ true → thing_goes_first thing token (m ∷ ms) ≡ true → count_carrying thing ms ≡ 0
behind thing token m ms e h =
    none_of (count_carrying thing ms) (ap (λ b. not (b && nat_lt 0 (count_carrying thing ms))) (sym e) ∙ (and_parts (not (same token (thing_of m) && nat_lt 0 (count_carrying thing ms))) (thing_goes_first thing token ms) h).0)

-- ---- one way

abbrev pub is_way : ℕ → ℕ → ℕ → ℕ → Bool
is_way a v x y = (x == a) && (y == v)

pub way_is : (a v x y : ℕ) → is_way a v x y ≡ true → (x ≡ a) × (y ≡ v)
way_is a v x y e = let p : ((x == a) ≡ true) × ((y == v) ≡ true) = and_parts (x == a) (y == v) e in (eqb-true x a p.0, eqb-true y v p.1)

mail_is : (a v : ℕ) (m : Msg) (x y : ℕ) → mail a (Some (v, m)) x y ≡ cond (is_way a v x y) (m ∷ []) []
mail_is a v m x y = go (x == a)
  where
    go : (b : Bool) → cond b (put (λ k. []) v (m ∷ [])) (λ k. []) y ≡ cond (b && (y == v)) (m ∷ []) []
    go true = refl
    go false = refl

-- at most one place each
abbrev pub AtMostOne : (ℕ → Pairs) → Thing → Type 0
AtMostOne pairs t = (x y : ℕ) → places_of pairs x y t ≤ 1

-- ---- a message goes

pub record Leaves (pairs pairs' : ℕ → Pairs) (a v : ℕ) (m : Msg) : Type 0 where
  pub held : (x y : ℕ) (t : Thing) → num (held (pairs' x) y t) + num (is_way a v x y && same t (thing_of m)) ≤ num (held (pairs x) y t)
  pub ways : (x y : ℕ) → between pairs' x y ≡ between pairs x y ++ cond (is_way a v x y) (m ∷ []) []

pub leaves : (pairs : ℕ → Pairs) (a v : ℕ) (m : Msg) (p' : Pairs) → ((u : ℕ) (t : Thing) → held p' u t ≡ with_held (held (pairs a)) v (thing_of m) false u t) → held (pairs a) v (thing_of m) ≡ true → Goes pairs a (Some (v, m)) (put pairs a p') → Leaves pairs (put pairs a p') a v m
leaves pairs a v m p' held_is had g = record {
  held = λ x y t. go x y t (x == a) refl;
  ways = λ x y. g.ways x y ∙ ap (λ l. between pairs x y ++ l) (mail_is a v m x y);
}
  where
    go : (x y : ℕ) (t : Thing) (b : Bool) → (x == a) ≡ b → num (held (cond b p' (pairs x)) y t) + num ((b && (y == v)) && same t (thing_of m)) ≤ num (held (pairs x) y t)
    go x y t true i = omega (arith, ap num (held_is y t), lost (held (pairs a)) v (thing_of m) had y t, ap (λ k. num (held (pairs k) y t)) (eqb-true x a i))
    go x y t false i = omega arith

pub count_sent : (w : Bool) (t : Thing) (ms ms' : List Msg) (m : Msg) → ms' ≡ ms ++ cond w (m ∷ []) [] → count_carrying t ms' ≡ count_carrying t ms + num (w && same t (thing_of m))
count_sent true t ms ms' m e = ap (count_carrying t) e ∙ count_carrying-push t ms m
count_sent false t ms ms' m e = ap (count_carrying t) (e ∙ append-nil ms) ∙ omega arith

-- the thing is given with its token here, and asked for where it isn't here
pub record Fits (pairs : ℕ → Pairs) (a v : ℕ) (m : Msg) (thing token : Thing) : Type 0 where
  pub gives : same thing (thing_of m) ≡ true → held (pairs a) v token ≡ true
  pub asks : same token (thing_of m) ≡ true → held (pairs a) v thing ≡ false

pub sent_follows : (pairs pairs' : ℕ → Pairs) (a v : ℕ) (m : Msg) (thing token : Thing) → AtMostOne pairs thing → AtMostOne pairs token → Leaves pairs pairs' a v m → Fits pairs a v m thing token → ((x y : ℕ) → Follows pairs x y thing token) → (x y : ℕ) → Follows pairs' x y thing token
sent_follows pairs pairs' a v m thing token one_thing one_token l fits h x y = record {
  given = omega (arith, (h x y).given, gives x y, l.held x y thing, l.held y x token, one_thing x y, one_token x y, sent x y thing, sent y x token);
  asked = omega (arith, (h x y).asked, (h y x).given, gives y x, asks x y, l.held x y thing, l.held y x thing, l.held x y token, one_thing x y, one_token x y, sent x y token, sent y x thing);
  order = order (is_way a v x y) (same thing (thing_of m)) refl refl;
}
  where
    there : (x y : ℕ) (t : Thing) → is_way a v x y ≡ true → held (pairs x) y t ≡ held (pairs a) v t
    there x y t i = let w = way_is a v x y i in ap (λ k. held (pairs k) y t) w.0 ∙ ap (λ k. held (pairs a) k t) w.1

    gives : (x y : ℕ) → num (is_way a v x y && same thing (thing_of m)) ≤ num (held (pairs x) y token)
    gives x y = go (is_way a v x y) (same thing (thing_of m)) refl refl
      where
        go : (w c : Bool) → is_way a v x y ≡ w → same thing (thing_of m) ≡ c → num (w && c) ≤ num (held (pairs x) y token)
        go true true i j = omega (arith, ap num (there x y token i ∙ fits.gives j))
        go true false i j = omega arith
        go false c i j = omega arith

    asks : (x y : ℕ) → num (is_way a v x y && same token (thing_of m)) + num (held (pairs x) y thing) ≤ 1
    asks x y = go (is_way a v x y) (same token (thing_of m)) refl refl
      where
        few : (b : Bool) → num b ≤ 1
        few true = omega arith
        few false = omega arith

        go : (w c : Bool) → is_way a v x y ≡ w → same token (thing_of m) ≡ c → num (w && c) + num (held (pairs x) y thing) ≤ 1
        go true true i j = omega (arith, ap num (there x y thing i ∙ fits.asks j))
        go true false i j = omega (arith, few (held (pairs x) y thing))
        go false c i j = omega (arith, few (held (pairs x) y thing))

    sent : (x y : ℕ) (t : Thing) → count_carrying t (between pairs' x y) ≡ count_carrying t (between pairs x y) + num (is_way a v x y && same t (thing_of m))
    sent x y t = count_sent (is_way a v x y) t (between pairs x y) (between pairs' x y) m (l.ways x y)

    order : (w c : Bool) → is_way a v x y ≡ w → same thing (thing_of m) ≡ c → thing_goes_first thing token (between pairs' x y) ≡ true
    order true true i j =
        let moved : num (is_way a v x y && same thing (thing_of m)) ≡ 1 = ap (λ b. num (b && same thing (thing_of m))) i ∙ ap num j in
        none_first thing token (between pairs' x y) (omega (arith, moved, gives x y, asks x y, l.held x y thing, one_token x y, sent x y token))
    order true false i j = ap (thing_goes_first thing token) (l.ways x y ∙ ap (λ b. between pairs x y ++ cond b (m ∷ []) []) i) ∙ pushed thing token (between pairs x y) m j (h x y).order
    order false c i j = ap (thing_goes_first thing token) (l.ways x y ∙ ap (λ b. between pairs x y ++ cond b (m ∷ []) []) i ∙ append-nil (between pairs x y)) ∙ (h x y).order

-- ---- a message comes

pub record Reaches (pairs pairs' : ℕ → Pairs) (u a : ℕ) (m : Msg) : Type 0 where
  pub held : (x y : ℕ) (t : Thing) → num (held (pairs' x) y t) ≤ num (held (pairs x) y t) + num (is_way u a y x && same t (thing_of m))
  pub ways : (x y : ℕ) → between pairs x y ≡ cond (is_way u a x y) (m ∷ []) [] ++ between pairs' x y

gained : (h : ℕ → Thing → Bool) (v : ℕ) (x : Thing) (u : ℕ) (t : Thing) → num (with_held h v x true u t) ≤ num (h u t) + num ((u == v) && same t x)
gained h v x u t = go (u == v) refl
  where
    here : u ≡ v → (c : Bool) → num (cond c true (h v t)) ≤ num (h u t) + num c
    here i true = omega arith
    here i false = omega (arith, ap num (ap (λ k. h k t) i))

    go : (b : Bool) → (u == v) ≡ b → num (cond b (hold (h v) x true) (h u) t) ≤ num (h u t) + num (b && same t x)
    go true i = here (eqb-true u v i) (same t x)
    go false i = omega arith

pub reaches : (pairs : ℕ → Pairs) (u a : ℕ) (m : Msg) (p' : Pairs) → ((y : ℕ) (t : Thing) → held p' y t ≡ with_held (held (pairs a)) u (thing_of m) true y t) → Comes pairs u a (Some m) (put pairs a p') → Reaches pairs (put pairs a p') u a m
reaches pairs u a m p' held_is c = record {
  held = λ x y t. go x y t (x == a) (y == u) refl refl;
  ways = λ x y. c.ways x y ∙ ap (λ l. l ++ between (put pairs a p') x y) (mail_is u a m x y);
}
  where
    go : (x y : ℕ) (t : Thing) (b e : Bool) → (x == a) ≡ b → (y == u) ≡ e → num (held (cond b p' (pairs x)) y t) ≤ num (held (pairs x) y t) + num ((e && b) && same t (thing_of m))
    go x y t true true i j = omega (arith, ap num (held_is y t), gained (held (pairs a)) u (thing_of m) y t, ap (λ k. num (held (pairs k) y t)) (eqb-true x a i), ap (λ k. num (k && same t (thing_of m))) j)
    go x y t true false i j = omega (arith, ap num (held_is y t), gained (held (pairs a)) u (thing_of m) y t, ap (λ k. num (held (pairs k) y t)) (eqb-true x a i), ap (λ k. num (k && same t (thing_of m))) j)
    go x y t false e i j = omega arith

pub count_came : (w : Bool) (t : Thing) (ms ms' : List Msg) (m : Msg) → ms ≡ cond w (m ∷ []) [] ++ ms' → count_carrying t ms ≡ num (w && same t (thing_of m)) + count_carrying t ms'
count_came true t ms ms' m e = ap (count_carrying t) e
count_came false t ms ms' m e = ap (count_carrying t) e ∙ omega arith

pub come_follows : (pairs pairs' : ℕ → Pairs) (u a : ℕ) (m : Msg) (thing token : Thing) → AtMostOne pairs thing → AtMostOne pairs token → Reaches pairs pairs' u a m → ((x y : ℕ) → Follows pairs x y thing token) → (x y : ℕ) → Follows pairs' x y thing token
come_follows pairs pairs' u a m thing token one_thing one_token l h x y = record {
  given = omega (arith, (h x y).given, clear (is_way u a x y) (same token (thing_of m)) refl refl, l.held y x token, one_token x y, came x y thing, came x y token, came y x token);
  asked = omega (arith, (h x y).asked, l.held x y thing, came x y token, came y x thing);
  order = order (is_way u a x y) refl;
}
  where
    came : (x y : ℕ) (t : Thing) → count_carrying t (between pairs x y) ≡ num (is_way u a x y && same t (thing_of m)) + count_carrying t (between pairs' x y)
    came x y t = count_came (is_way u a x y) t (between pairs x y) (between pairs' x y) m (l.ways x y)

    first : is_way u a x y ≡ true → thing_goes_first thing token (m ∷ between pairs' x y) ≡ true
    first i = ap (thing_goes_first thing token) (sym (l.ways x y ∙ ap (λ b. cond b (m ∷ []) [] ++ between pairs' x y) i)) ∙ (h x y).order

    -- where the token comes, the thing isn't behind it
    clear : (w c : Bool) → is_way u a x y ≡ w → same token (thing_of m) ≡ c → num (is_way u a x y && same token (thing_of m)) + count_carrying thing (between pairs' x y) ≤ 1
    clear true true i j = omega (arith, ap (λ b. num (b && same token (thing_of m))) i, ap num j, behind thing token m (between pairs' x y) j (first i))
    clear true false i j = omega (arith, ap (λ b. num (b && same token (thing_of m))) i, ap num j, one_thing x y, came x y thing)
    clear false c i j = omega (arith, ap (λ b. num (b && same token (thing_of m))) i, one_thing x y, came x y thing)

    order : (w : Bool) → is_way u a x y ≡ w → thing_goes_first thing token (between pairs' x y) ≡ true
    order true i = (and_parts (not (same token (thing_of m) && nat_lt 0 (count_carrying thing (between pairs' x y)))) (thing_goes_first thing token (between pairs' x y)) (first i)).1
    order false i = ap (thing_goes_first thing token) (sym (l.ways x y ∙ ap (λ b. cond b (m ∷ []) [] ++ between pairs' x y) i)) ∙ (h x y).order
