-- What goes from an office to another, and the places of what they share when it is sent and when it comes.
use Rattle.std.proofs.Common.{◌≡◌, ℕ, suc, ◌+◌, ◌≤◌, Bool, true, false, cond, refl, sym, ap, ◌∙◌, subst, arith, ⊎_elim}
use Rattle.std.specs.Prelude.{◌==◌, nat_lt}
use Rattle.std.proofs.lemmas.Bool.{ne_eqb, cases_eq, lt-ltb}
use Rattle.dining_core.specs.Diners.{Diner}
use Rattle.dining_core.specs.Worlds.{with_way, one_more, places}
use Rattle.dining_core.specs.WayLaws.{cases_two, way_at, way_off}
use Rattle.bottle_values.specs.Maps.{put}
use Rattle.bottle_values.specs.Lists.{num}
use Rattle.bottle_values.specs.MapLaws.{put_cases, put_same}

-- on the way from the office that changed, and to it
way_from : {X : Type 0} (way : ℕ → ℕ → X) (a v : ℕ) (n : X) (u : ℕ) → with_way way a v n a u ≡ cond (u == v) n (way a u)
way_from way a v n u = ap (λ (f : ℕ → _). f u) (put_same way a (put (way a) v n))

pub sent_on_way : (way : ℕ → ℕ → ℕ) (a v u : ℕ) → nat_lt 0 (one_more way a v a u) ≡ cond (u == v) true (nat_lt 0 (way a u))
sent_on_way way a v u = ap (nat_lt 0) (way_from way a v (way a v + 1) u) ∙ either (u == v)
  where
    either : (b : Bool) → nat_lt 0 (cond b (way a v + 1) (way a u)) ≡ cond b true (nat_lt 0 (way a u))
    either true = lt-ltb 0 (way a v + 1) (omega arith)
    either false = refl

-- ---- what the offices hold, where one of them changed

seen : (get : Diner → ℕ → Bool) (f : ℕ → Diner) (a : ℕ) (d : Diner) (h : ℕ → Bool) → get d ≡ h → (x y : ℕ) → get (put f a d x) y ≡ put (λ z. get (f z)) a h x y
seen get f a d h e x y = either (x == a)
  where
    either : (b : Bool) → get (cond b d (f x)) y ≡ cond b h (get (f x)) y
    either true = ap (λ (g : ℕ → Bool). g y) e
    either false = refl

same_seen : (get : Diner → ℕ → Bool) (f : ℕ → Diner) (a : ℕ) (d : Diner) → get d ≡ get (f a) → (x y : ℕ) → get (put f a d x) y ≡ get (f x) y
same_seen get f a d e x y = put_cases f a d x (λ (c : Diner). get c y ≡ get (f x) y) (λ i. ap (λ (g : ℕ → Bool). g y) e ∙ ap (λ z. get (f z) y) (sym i)) (λ ne. refl)

pub places_kept : (get : Diner → ℕ → Bool) (f : ℕ → Diner) (a : ℕ) (d : Diner) (way : ℕ → ℕ → ℕ) → get d ≡ get (f a) → (x y : ℕ) → places (λ z. get (put f a d z)) way x y ≡ places (λ z. get (f z)) way x y
places_kept get f a d way e x y = omega (arith, ap num (same_seen get f a d e x y), ap num (same_seen get f a d e y x))

-- what is sent is held no more, and on the way
sent_side : (held : ℕ → ℕ → Bool) (way : ℕ → ℕ → ℕ) (a v : ℕ) → held a v ≡ true → (x y : ℕ) → num (with_way held a v false x y) + one_more way a v x y ≡ num (held x y) + way x y
sent_side held way a v h x y = ⊎_elim
    (λ e. omega (
      arith,
      ap num (way_at held a v false x y e),
      way_at way a v (way a v + 1) x y e,
      ap num (ap (λ z. held z y) e.0 ∙ ap (held a) e.1 ∙ h),
      ap (λ z. way z y) e.0 ∙ ap (way a) e.1,
    ))
    (λ ne. omega (arith, ap num (way_off held a v false x y ne), way_off way a v (way a v + 1) x y ne))
    (cases_two x a y v)

pub places_sent : (get : Diner → ℕ → Bool) (f : ℕ → Diner) (a v : ℕ) (d : Diner) (way : ℕ → ℕ → ℕ) → get d ≡ put (get (f a)) v false → get (f a) v ≡ true → (x y : ℕ) →
    places (λ z. get (put f a d z)) (one_more way a v) x y ≡ places (λ z. get (f z)) way x y
places_sent get f a v d way e h x y =
    omega (
      arith,
      ap num (seen get f a d (put (get (f a)) v false) e x y),
      ap num (seen get f a d (put (get (f a)) v false) e y x),
      sent_side (λ z. get (f z)) way a v h x y,
      sent_side (λ z. get (f z)) way a v h y x,
    )

-- what comes is held, and of those on the way one less is left
came_side : (held : ℕ → ℕ → Bool) (way : ℕ → ℕ → ℕ) (a v left : ℕ) → held a v ≡ false → way v a ≡ suc left → (x y : ℕ) → num (with_way held a v true x y) + with_way way v a left y x ≡ num (held x y) + way y x
came_side held way a v left h w x y = ⊎_elim
    (λ e. omega (
      arith,
      ap num (way_at held a v true x y e),
      way_at way v a left y x (e.1, e.0),
      ap num (ap (λ z. held z y) e.0 ∙ ap (held a) e.1 ∙ h),
      ap (λ z. way z x) e.1 ∙ ap (way v) e.0 ∙ w,
    ))
    (λ ne. omega (arith, ap num (way_off held a v true x y ne), way_off way v a left y x (λ e. ne (e.1, e.0))))
    (cases_two x a y v)

pub places_came : (get : Diner → ℕ → Bool) (f : ℕ → Diner) (a v left : ℕ) (d : Diner) (way : ℕ → ℕ → ℕ) → get d ≡ put (get (f a)) v true → get (f a) v ≡ false → way v a ≡ suc left → (x y : ℕ) →
    places (λ z. get (put f a d z)) (with_way way v a left) x y ≡ places (λ z. get (f z)) way x y
places_came get f a v left d way e h w x y =
    omega (
      arith,
      ap num (seen get f a d (put (get (f a)) v true) e x y),
      ap num (seen get f a d (put (get (f a)) v true) e y x),
      came_side (λ z. get (f z)) way a v left h w x y,
      came_side (λ z. get (f z)) way a v left h w y x,
    )

-- what is on the way to an office isn't held there, where two offices have one place for it, and an office with itself two
pub not_here : (held : ℕ → ℕ → Bool) (way : ℕ → ℕ → ℕ) (a v left : ℕ) → places held way a v ≤ 1 + num (a == v) → way v a ≡ suc left → held a v ≡ false
not_here held way a v left few w = no (held a v) (⊎_elim
    (λ e. omega (arith, subst (λ z. places held way a z ≤ 1 + num (a == z)) (sym e) few, subst (λ z. way z a ≡ suc left) (sym e) w, ap (λ z. num (held a z)) e, at_most_one (a == a)))
    (λ ne. omega (arith, few, ap num (ne_eqb a v ne), w))
    (cases_eq a v))
  where
    no : (b : Bool) → num b ≡ 0 → b ≡ false
    no true e = absurd (omega (arith, e))
    no false e = refl

    at_most_one : (b : Bool) → num b ≤ 1
    at_most_one true = omega arith
    at_most_one false = omega arith
