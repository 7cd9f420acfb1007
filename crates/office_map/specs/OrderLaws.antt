-- What follows of lists of offices.
use Rattle.std.proofs.Common.{◌≡◌, ℕ, ◌+◌, ◌<◌, ◌≤◌, Bool, true, false, ◌&&◌, ◌||◌, cond, List, [], ◌∷◌, refl, arith, ⊎_elim}
use Rattle.std.specs.Prelude.{◌==◌}
use Rattle.std.proofs.lemmas.Bool.{and_parts, or_cases}
use Rattle.bottle_values.specs.Lists.{is_among, num}
use Rattle.office_map.specs.Precedence.{occurrences, comes_before, place}

-- who stands in a list stands there once at least
some_more : (b c : Bool) (n : ℕ) → (c ≡ true → 1 ≤ n) → (b || c) ≡ true → 1 ≤ num b + n
some_more true c n h e = omega arith
some_more false c n h e = omega (arith, h e)

pub occurrences_of_some : (a : ℕ) (xs : List ℕ) → is_among xs a ≡ true → 1 ≤ occurrences a xs
occurrences_of_some a [] h = (cc)
occurrences_of_some a (x ∷ xs) h = some_more (x == a) (is_among xs a) (occurrences a xs) (occurrences_of_some a xs) h

-- and what comes before another, where none stands twice, has the lower place
behind : (xs : List ℕ) (u v : ℕ) → comes_before xs u v ≡ true → is_among xs v ≡ true
behind [] u v h = (cc)
behind (x ∷ xs) u v h = ⊎_elim
    (λ e. or_right' (x == v) (is_among xs v) (and_parts (x == u) (is_among xs v) e).1)
    (λ e. or_right' (x == v) (is_among xs v) (behind xs u v e))
    (or_cases (x == u && is_among xs v) (comes_before xs u v) h)
  where
    or_right' : (b c : Bool) → c ≡ true → (b || c) ≡ true
    or_right' true c e = refl
    or_right' false c e = e

pub placed_before : (xs : List ℕ) (u v : ℕ) → ((a : ℕ) → occurrences a xs ≤ 1) → comes_before xs u v ≡ true → place u xs < place v xs
placed_before [] u v once h = (cc)
placed_before (x ∷ xs) u v once h =
    let here : is_among xs v ≡ true = ⊎_elim (λ e. (and_parts (x == u) (is_among xs v) e).1) (λ e. behind xs u v e) (or_cases (x == u && is_among xs v) (comes_before xs u v) h) in
    let apart : (x == v) ≡ false = not_first (x == v) (once v) (occurrences_of_some v xs here) in
    steps (x == u) (x == v) apart (λ e. placed_before xs u v (λ a. omega (arith, once a)) (⊎_elim (λ s. absurd (both (x == u) (and_parts (x == u) (is_among xs v) s).0 e)) (λ s. s) (or_cases (x == u && is_among xs v) (comes_before xs u v) h)))
  where
    not_first : (b : Bool) → num b + occurrences v xs ≤ 1 → 1 ≤ occurrences v xs → b ≡ false
    not_first true most some = absurd (omega (arith, most, some))
    not_first false most some = refl

    both : (b : Bool) → b ≡ true → b ≡ false → ⊥
    both true e f = (cc)
    both false e f = (cc)

    steps : (b c : Bool) → c ≡ false → (b ≡ false → place u xs < place v xs) → cond b 0 (1 + place u xs) < cond c 0 (1 + place v xs)
    steps true false e f = omega arith
    steps false false e f = omega (arith, f refl)
    steps b true e f = (cc)
