-- Each thing is held here, or waits here once, or neither: kept by each call, so that there is room.
use Rattle.std.proofs.Common.{◌≡◌, ℕ, ◌+◌, ◌<◌, ◌≤◌, Bool, true, false, not, ◌&&◌, ◌||◌, cond, List, [], ◌∷◌, ◌++◌, length, drop, refl, sym, ap, ◌∙◌, subst, arith}
use Rattle.frame_codec.specs.declared.message.Msg.{Msg}
use Rattle.token_channel.specs.declared.thing.Thing.{Thing}
use Rattle.token_channel.specs.declared.thing.SharedThing.{SharedThing}
use Rattle.token_channel.specs.Things.{same, thing_of, count_carrying, hold}
use Rattle.token_channel.specs.Places.{holds, shares, waits, Apart, changed}
use Rattle.token_channel.proofs.HeldUpdates.{holds-changed, holds-changed_other, shares-changed, holds_shared, length-changed}
use Rattle.token_channel.specs.ThingLaws.{same_self, same_is, count_carrying-push, count_carrying-drop, count_carrying-none, no_breach, room}
use Rattle.bottle_values.specs.Lists.{num}
use Rattle.bottle_values.specs.ListLaws.{num_one}
use Rattle.window_link.specs.Limits.{most_waiting}

pub apart_none : (places : List SharedThing) → Apart places []
apart_none places t = omega (arith, holds_shared places t)

num_true : (b : Bool) → b ≡ true → num b ≡ 1
num_true b e = ap num e

by_same : (P : Type 0) (b : Bool) → (b ≡ true → P) → (b ≡ false → P) → P
by_same P true f g = f refl
by_same P false f g = g refl

-- a held thing went out
pub apart_sent : (places : List SharedThing) (ms : List Msg) (m : Msg) → Apart places ms → holds places (thing_of m) ≡ true → Apart (changed places (thing_of m) false) (ms ++ m ∷ [])
apart_sent places ms m h held t =
    by_same _ (same t (thing_of m))
    (λ yes.
    subst (λ u. num (holds (changed places (thing_of m) false) u) + count_carrying u (ms ++ m ∷ []) ≤ num (shares (changed places (thing_of m) false) u)) (sym (same_is t (thing_of m) yes))
    (omega (
      arith,
      h (thing_of m),
      num_true _ held,
      ap num (holds-changed places (thing_of m) false ∙ and_none (shares places (thing_of m))),
      count_carrying-push (thing_of m) ms m,
      num_true _ (same_self (thing_of m)),
      ap num (shares-changed places (thing_of m) (thing_of m) false),
      num_one (shares places (thing_of m)),
    )))
    (λ no. omega (
      arith,
      h t,
      ap num (holds-changed_other places (thing_of m) t false no),
      count_carrying-push t ms m,
      ap num no,
      ap num (shares-changed places (thing_of m) t false),
    ))
  where
    and_none : (b : Bool) → (b && false) ≡ false
    and_none true = refl
    and_none false = refl

pub apart_drop : (places : List SharedThing) (ms : List Msg) (n : ℕ) → Apart places ms → Apart places (drop n ms)
apart_drop places ms n h t = omega (arith, h t, count_carrying-drop t n ms)

-- a thing of the pair that doesn't wait came in
pub apart_taken : (places : List SharedThing) (ms : List Msg) (t : Thing) → Apart places ms → shares places t ≡ true → waits t ms ≡ false → Apart (changed places t true) ms
apart_taken places ms t h shared none u =
    by_same _ (same u t)
    (λ yes.
    subst (λ v. num (holds (changed places t true) v) + count_carrying v ms ≤ num (shares (changed places t true) v)) (sym (same_is u t yes))
    (omega (
      arith,
      num_one (holds (changed places t true) t),
      count_carrying-none t ms none,
      ap num (shares-changed places t t true),
      num_true _ shared,
    )))
    (λ no. omega (arith, h u, ap num (holds-changed_other places t u true no), ap num (shares-changed places t u true)))

-- ---- what an end keeps

abbrev pub Kept : List SharedThing → List Msg → Type 0
Kept places ms = Apart places ms × (length places ≤ most_waiting)

pub kept_dropped : (places places' : List SharedThing) (ms ms' : List Msg) (n : ℕ) → Kept places ms → ms' ≡ drop n ms → places' ≡ places → Kept places' ms'
kept_dropped places places' ms ms' n k waiting same =
    subst (λ l. Kept l ms') (sym same) (subst (Kept places) (sym waiting) (apart_drop places ms n k.0, k.1))

pub kept_taken : (places places' : List SharedThing) (ms ms' : List Msg) (n : ℕ) (t : Thing) → Kept places ms → ms' ≡ drop n ms → places' ≡ changed places t true →
    (not (shares places t) || holds places t || waits t (drop n ms)) ≡ false → Kept places' ms'
kept_taken places places' ms ms' n t k waiting same honest =
    let e = no_breach (shares places t) (holds places t) (waits t (drop n ms)) honest in
    subst (λ l. Kept l ms') (sym same) (subst (Kept (changed places t true)) (sym waiting) (apart_taken places (drop n ms) t (apart_drop places ms n k.0) e.0 e.1, omega (arith, k.1, length-changed places t true)))

pub kept_sent : (places places' : List SharedThing) (ms ms' : List Msg) (m : Msg) → Kept places ms → ms' ≡ ms ++ m ∷ [] → places' ≡ changed places (thing_of m) false → holds places (thing_of m) ≡ true → Kept places' ms'
kept_sent places places' ms ms' m k waiting same held =
    subst (λ l. Kept l ms') (sym same) (subst (Kept (changed places (thing_of m) false)) (sym waiting) (apart_sent places ms m k.0 held, omega (arith, k.1, length-changed places (thing_of m) false)))

-- what is held, where one thing came or went
pub held-changed : (places : List SharedThing) (t u : Thing) (b : Bool) → shares places t ≡ true → holds (changed places t b) u ≡ hold (holds places) t b u
held-changed places t u b shared =
    by_same _ (same u t)
    (λ yes. ap (holds (changed places t b)) (same_is u t yes) ∙ holds-changed places t b ∙ ap (λ x. x && b) shared ∙ sym (ap (λ x. cond x b (holds places u)) yes))
    (λ no. holds-changed_other places t u b no ∙ sym (ap (λ x. cond x b (holds places u)) no))

pub shared_held : (places : List SharedThing) (t : Thing) → holds places t ≡ true → shares places t ≡ true
shared_held places t h = by_same _ (shares places t) (λ yes. yes) (λ no. absurd (omega (arith, holds_shared places t, num_true _ h, ap num no)))

pub room_left : (places : List SharedThing) (ms : List Msg) (t : Thing) → Kept places ms → holds places t ≡ true → length ms < most_waiting
room_left places ms t k held = omega (arith, room places ms t k.0, k.1, num_true _ held)
