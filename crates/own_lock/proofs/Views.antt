-- The views at a table of which one changes, and the seats of tags of which one moves.
use Rattle.std.proofs.Common.{◌≡◌, ◌≢◌, ◌<◌, ◌⊎◌, ℕ, zero, suc, ◌==◌, true, false, List, [], ◌∷◌, ◌++◌, length, set, refl, ap, sym, subst, ◌∙◌, inl, inr, ⊎_elim, arith, eq-eqb, ne_eqb, if◌then◌else◌}
use mathlib.Core.Option.{some, some-injective, some-ne-none}
use lib.ListN.{get_elem?}
use Rattle.atomic_table.proofs.Lists.{at_set, set_else, at_longer}
use Rattle.own_lock.specs.declared.seat_view.SeatView.{SeatView}
use Rattle.own_lock.specs.Rule.{HoldsAt}

module _ {A : Type 0} where
  pub get_elem-inside : (l : List A) (i : ℕ) (a : A) → get_elem? l i ≡ some a → i < length l
  get_elem-inside [] i a e = absurd (some-ne-none a (sym e))
  get_elem-inside (x ∷ xs) zero a e = omega arith
  get_elem-inside (x ∷ xs) (suc i) a e = let inside = get_elem-inside xs i a e in omega arith

  get_elem-snoc : (l : List A) (a b : A) (j : ℕ) → get_elem? (l ++ a ∷ []) j ≡ some b → (get_elem? l j ≡ some b) ⊎ ((j ≡ length l) × (a ≡ b))
  get_elem-snoc [] a b zero e = inr (refl, some-injective a b e)
  get_elem-snoc [] a b (suc j) e = absurd (some-ne-none b (sym e))
  get_elem-snoc (x ∷ xs) a b zero e = inl e
  get_elem-snoc (x ∷ xs) a b (suc j) e = elim (get_elem-snoc xs a b j e) [ inl old ↦ inl old | inr new ↦ inr (ap suc new.0, new.1) ]

  -- what holds of each place, where one value was set
  pub each-set : (Q : ℕ → A → Type 0) (l : List A) (i : ℕ) (a : A) → Q i a → ((j : ℕ) (b : A) → j ≢ i → get_elem? l j ≡ some b → Q j b)
      → (j : ℕ) (b : A) → get_elem? (set l i a) j ≡ some b → Q j b
  each-set Q l i a here others j b e = ⊎_elim
      (λ (t : (j ≡ i) × (a ≡ b)). subst (λ (z : ℕ × A). Q z.0 z.1) (λ k. (sym t.0 k, t.1 k)) here)
      (λ (t : (j ≢ i) × (get_elem? l j ≡ some b)). others j b t.0 t.1)
      (at_set l i j a b e)

  -- and where one came behind all others
  pub each-snoc : (Q : ℕ → A → Type 0) (l : List A) (a : A) → Q (length l) a → ((j : ℕ) (b : A) → get_elem? l j ≡ some b → Q j b)
      → (j : ℕ) (b : A) → get_elem? (l ++ a ∷ []) j ≡ some b → Q j b
  each-snoc Q l a here others j b e = ⊎_elim
      (λ (t : get_elem? l j ≡ some b). others j b t)
      (λ (t : (j ≡ length l) × (a ≡ b)). subst (λ (z : ℕ × A). Q z.0 z.1) (λ k. (sym t.0 k, t.1 k)) here)
      (get_elem-snoc l a b j e)

module _ {K E : Type 0} where
  differs : (v w : SeatView K E) → v ≡ w → v.holds ≡ false → w.holds ≡ true → ⊥
  differs v w same idle held = let no : false ≡ true = sym idle ∙ (ap (λ (u : SeatView K E). u.holds) same ∙ held) in cc no

  -- who holds goes on holding where another's view changes
  pub HoldsAt-set : (vs : List (SeatView K E)) (seat holder : ℕ) (v w : SeatView K E) → get_elem? vs seat ≡ some v → v.holds ≡ false → HoldsAt vs holder → HoldsAt (set vs seat w) holder
  HoldsAt-set vs seat holder v w at idle held =
      let other : holder ≢ seat = λ same. differs v held.0 (some-injective _ _ (sym at ∙ (ap (get_elem? vs) (sym same) ∙ held.1))) idle held.2 in
      (held.0, set_else vs seat holder w other ∙ held.1, held.2)

  pub HoldsAt-snoc : (vs : List (SeatView K E)) (holder : ℕ) (w : SeatView K E) → HoldsAt vs holder → HoldsAt (vs ++ w ∷ []) holder
  HoldsAt-snoc vs holder w held = (held.0, at_longer vs (w ∷ []) holder held.0 held.1, held.2)

-- the seats of tags, where the one of t is new
abbrev pub moved : (ℕ → ℕ) → ℕ → ℕ → ℕ → ℕ
moved seat_of t seat u = if u == t then seat else seat_of u

pub moved-here : (seat_of : ℕ → ℕ) (t seat : ℕ) → moved seat_of t seat t ≡ seat
moved-here seat_of t seat = ap (λ b. if b then seat else seat_of t) (eq-eqb t t refl)

pub moved-else : (seat_of : ℕ → ℕ) (t seat u : ℕ) → u ≢ t → moved seat_of t seat u ≡ seat_of u
moved-else seat_of t seat u ne = ap (λ b. if b then seat else seat_of u) (ne_eqb u t ne)
