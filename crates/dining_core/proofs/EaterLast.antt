-- Lists of offices, and one that is put last.
use Rattle.std.proofs.Common.{◌≡◌, ℕ, zero, suc, ◌+◌, ◌<◌, ◌≤◌, Bool, true, false, not, ◌&&◌, cond, List, [], ◌∷◌, ◌++◌, length, refl, sym, ap, ◌∙◌, subst, arith, ⊎_elim, get_or}
use Rattle.std.specs.Prelude.{◌==◌, filter}
use Rattle.std.specs.List.{list_any, list_all, range_with_len}
use Rattle.std.proofs.lemmas.Bool.{eqb-true, eq-eqb, ne_eqb, and_parts, and_from, or_cases, or_left, or_right, cases_eq}
use Rattle.std.proofs.lemmas.List.FromFn.{get_or-range_with_len, length-range_with_len}
use Rattle.office_map.specs.Precedence.{occurrences, comes_before}
use Rattle.dining_core.specs.Worlds.{with_last}
use Rattle.bottle_values.specs.Lists.{num}

-- an element is kept, or is the one that is put last
kept_or_not : (P : List ℕ → Type 0) (a x : ℕ) (ys : List ℕ) → (x ≡ a → P ys) → ((x ≡ a → ⊥) → P (x ∷ ys)) → P (cond (not (x == a)) (x ∷ ys) ys)
kept_or_not P a x ys same other = ⊎_elim
    (λ e. subst (λ b. P (cond (not b) (x ∷ ys) ys)) (sym (eq-eqb x a e)) (same e))
    (λ ne. subst (λ b. P (cond (not b) (x ∷ ys) ys)) (sym (ne_eqb x a ne)) (other ne))
    (cases_eq x a)

abbrev others : ℕ → List ℕ → List ℕ
others a xs = filter (λ x. not (x == a)) xs

abbrev among : ℕ → List ℕ → Bool
among y xs = list_any (λ x. x == y) xs

-- how often
occurrences_first : (y x : ℕ) (xs : List ℕ) → x ≡ y → occurrences y (x ∷ xs) ≡ 1 + occurrences y xs
occurrences_first y x xs e = ap (λ b. num b + occurrences y xs) (eq-eqb x y e)

occurrences_not_first : (y x : ℕ) (xs : List ℕ) → (x ≡ y → ⊥) → occurrences y (x ∷ xs) ≡ occurrences y xs
occurrences_not_first y x xs ne = omega (arith, ap num (ne_eqb x y ne))

pub occurrences_of_last : (a : ℕ) (xs : List ℕ) → occurrences a (with_last a xs) ≡ 1
occurrences_of_last a [] = occurrences_first a a [] refl
occurrences_of_last a (x ∷ xs) = kept_or_not (λ l. occurrences a (l ++ a ∷ []) ≡ 1) a x (others a xs)
    (λ e. occurrences_of_last a xs)
    (λ ne. occurrences_not_first a x (others a xs ++ a ∷ []) ne ∙ occurrences_of_last a xs)

pub occurrences_of_other : (a y : ℕ) (xs : List ℕ) → (y ≡ a → ⊥) → occurrences y (with_last a xs) ≡ occurrences y xs
occurrences_of_other a y [] ne = occurrences_not_first y a [] (λ e. ne (sym e))
occurrences_of_other a y (x ∷ xs) ne = kept_or_not (λ l. occurrences y (l ++ a ∷ []) ≡ occurrences y (x ∷ xs)) a x (others a xs)
    (λ e. occurrences_of_other a y xs ne ∙ sym (occurrences_not_first y x xs (λ s. ne (sym s ∙ e))))
    (λ n. ap (λ k. num (x == y) + k) (occurrences_of_other a y xs ne))

pub counted_among : (y : ℕ) (xs : List ℕ) → 1 ≤ occurrences y xs → among y xs ≡ true
counted_among y [] h = absurd (omega (arith, h))
counted_among y (x ∷ xs) h = ⊎_elim
    (λ e. or_left (x == y) (among y xs) (eq-eqb x y e))
    (λ ne. or_right (x == y) (among y xs) (counted_among y xs (omega (arith, h, occurrences_not_first y x xs ne))))
    (cases_eq x y)

-- who stands in the list
among_last : (a : ℕ) (xs : List ℕ) → among a (with_last a xs) ≡ true
among_last a xs = counted_among a (with_last a xs) (omega (arith, occurrences_of_last a xs))

among_kept : (a y : ℕ) (xs : List ℕ) → (y ≡ a → ⊥) → among y xs ≡ true → among y (with_last a xs) ≡ true
among_kept a y [] ne h = cc
among_kept a y (x ∷ xs) ne h = kept_or_not (λ l. among y (l ++ a ∷ []) ≡ true) a x (others a xs)
    (λ e. among_kept a y xs ne (⊎_elim (λ s. absurd (ne (sym (eqb-true x y s) ∙ e))) (λ s. s) (or_cases (x == y) (among y xs) h)))
    (λ n. ⊎_elim
    (λ s. or_left (x == y) (among y (with_last a xs)) s)
    (λ s. or_right (x == y) (among y (with_last a xs)) (among_kept a y xs ne s))
    (or_cases (x == y) (among y xs) h))

-- two others stay in order
pub others_stay : (a u v : ℕ) (xs : List ℕ) → (u ≡ a → ⊥) → (v ≡ a → ⊥) → comes_before xs u v ≡ true → comes_before (with_last a xs) u v ≡ true
others_stay a u v [] nu nv h = cc
others_stay a u v (x ∷ xs) nu nv h = kept_or_not (λ l. comes_before (l ++ a ∷ []) u v ≡ true) a x (others a xs)
    (λ e. others_stay a u v xs nu nv (⊎_elim
    (λ s. absurd (nu (sym (eqb-true x u (and_parts (x == u) (among v xs) s).0) ∙ e)))
    (λ s. s)
    (or_cases (x == u && among v xs) (comes_before xs u v) h)))
    (λ n. ⊎_elim
    (λ s. or_left (x == u && among v (with_last a xs)) (comes_before (with_last a xs) u v)
    (and_from (x == u) (among v (with_last a xs)) (and_parts (x == u) (among v xs) s).0 (among_kept a v xs nv (and_parts (x == u) (among v xs) s).1)))
    (λ s. or_right (x == u && among v (with_last a xs)) (comes_before (with_last a xs) u v) (others_stay a u v xs nu nv s))
    (or_cases (x == u && among v xs) (comes_before xs u v) h))

-- and each comes before the last
pub before_last : (a u : ℕ) (xs : List ℕ) → (u ≡ a → ⊥) → among u xs ≡ true → comes_before (with_last a xs) u a ≡ true
before_last a u [] nu h = cc
before_last a u (x ∷ xs) nu h = kept_or_not (λ l. comes_before (l ++ a ∷ []) u a ≡ true) a x (others a xs)
    (λ e. before_last a u xs nu (⊎_elim (λ s. absurd (nu (sym (eqb-true x u s) ∙ e))) (λ s. s) (or_cases (x == u) (among u xs) h)))
    (λ n. ⊎_elim
    (λ s. or_left (x == u && among a (with_last a xs)) (comes_before (with_last a xs) u a) (and_from (x == u) (among a (with_last a xs)) s (among_last a xs)))
    (λ s. or_right (x == u && among a (with_last a xs)) (comes_before (with_last a xs) u a) (before_last a u xs nu s))
    (or_cases (x == u) (among u xs) h))

-- what holds of each that passes a test
of_passed : (f g : ℕ → Bool) (xs : List ℕ) (k d : ℕ) → list_all f (filter g xs) ≡ true → k < length xs → g (get_or xs k d) ≡ true → f (get_or xs k d) ≡ true
of_passed f g [] k d h lt p = absurd (omega (arith, lt))
of_passed f g (x ∷ xs) zero d h lt p = (and_parts (f x) (list_all f (filter g xs)) (subst (λ b. list_all f (cond b (x ∷ filter g xs) (filter g xs)) ≡ true) p h)).0
of_passed f g (x ∷ xs) (suc k) d h lt p = of_passed f g xs k d (rest (g x) h) (omega (arith, lt)) p
  where
    rest : (b : Bool) → list_all f (cond b (x ∷ filter g xs) (filter g xs)) ≡ true → list_all f (filter g xs) ≡ true
    rest true e = (and_parts (f x) (list_all f (filter g xs)) e).1
    rest false e = e

pub of_each : (f g : ℕ → Bool) (n v : ℕ) → list_all f (filter g (range_with_len 0 n)) ≡ true → v < n → g v ≡ true → f v ≡ true
of_each f g n v h lt p =
    let is : get_or (range_with_len 0 n) v 0 ≡ v = get_or-range_with_len 0 n v 0 lt ∙ omega arith in
    subst (λ z. f z ≡ true) is (of_passed f g (range_with_len 0 n) v 0 h (omega (arith, lt, length-range_with_len 0 n)) (subst (λ z. g z ≡ true) (sym is) p))
