-- What is kept at the places of two offices.
use Rattle.std.proofs.Common.{◌≡◌, ℕ, ◌+◌, ◌*◌, ◌<◌, ◌≤◌, List, [], ◌∷◌, ◌++◌, length, get_or, set, replicate, zero, suc, Bool, true, false, ◌&&◌, ◌||◌, cond, eqb, ◌⊎◌, inl, inr, ⊎_elim, refl, sym, ap, ◌∙◌, arith, nat_lt}
use Rattle.std.specs.List.{count_by, list_any}
use Rattle.std.proofs.lemmas.Bool.{eq-eqb, both_ways, false_from_ne_true}
use Rattle.std.proofs.lemmas.Bool.Decides.{nat_tests}
use Rattle.std.proofs.lemmas.List.{get_or-set_same, get_or-set_other}
use Rattle.std.proofs.lemmas.List.Folds.{list_any-append}
use Rattle.std.proofs.lemmas.List.Sums.{sum_by_push}
use Rattle.office_map.specs.declared.entries.PairEntry.{PairEntry}
use Rattle.office_map.specs.declared.entries.RecordEntry.{RecordEntry}
use Rattle.office_map.specs.Consistency.{IsConsistent}
use Rattle.office_map.specs.PlanValue.{PlanValue, joins, are_neighbours, lies_between}
use Rattle.office_map.specs.refinement.RecordCounts.{pair_index, CountsRecords, MarksPairs}
use Rattle.office_map.proofs.ConsistencyKept.{in_either_order, neighbours_are_offices}

pub nothing_kept : {A : Type 0} (d : A) (n k : ℕ) → get_or (replicate n d) k d ≡ d
nothing_kept d zero k = refl
nothing_kept d (suc n) zero = refl
nothing_kept d (suc n) (suc k) = nothing_kept d n k

place_cases : (a b : ℕ) → ((a < b) × (pair_index a b ≡ 16 * a + b)) ⊎ ((b ≤ a) × (pair_index a b ≡ 16 * b + a))
place_cases a b = by_test (nat_lt a b) refl
  where
    by_test : (t : Bool) → nat_lt a b ≡ t → ((a < b) × (cond t (16 * a + b) (16 * b + a) ≡ 16 * a + b)) ⊎ ((b ≤ a) × (cond t (16 * a + b) (16 * b + a) ≡ 16 * b + a))
    by_test true e = inl (grind (arith, nat_tests), refl)
    by_test false e = inr (grind (arith, nat_tests), refl)

abbrev AreTheSame : (a b x y : ℕ) → Type 0
AreTheSame a b x y = ((x ≡ a) × (y ≡ b)) ⊎ ((x ≡ b) × (y ≡ a))

turned_place : (a b : ℕ) → pair_index b a ≡ pair_index a b
turned_place a b = ⊎_elim
    (λ e. ⊎_elim (λ f. omega (arith, e, f)) (λ f. omega (arith, e, f)) (place_cases b a))
    (λ e. ⊎_elim (λ f. omega (arith, e, f)) (λ f. omega (arith, e, f)) (place_cases b a))
    (place_cases a b)

one_place : (a b x y : ℕ) → AreTheSame a b x y → pair_index a b ≡ pair_index x y
one_place a b x y (inl e) = ap (λ z. pair_index z b) (sym e.0) ∙ ap (pair_index x) (sym e.1)
one_place a b x y (inr e) = sym (turned_place a b) ∙ ap (λ z. pair_index z a) (sym e.0) ∙ ap (pair_index x) (sym e.1)

same_at : (a b x y : ℕ) → a < 16 → b < 16 → x < 16 → y < 16 → pair_index a b ≡ pair_index x y → AreTheSame a b x y
same_at a b x y la lb lx ly h = ⊎_elim
    (λ e. ⊎_elim (λ f. inl (omega (arith, e, f, h, lb, ly), omega (arith, e, f, h, lb, ly))) (λ f. inr (omega (arith, e, f, h, lb, lx), omega (arith, e, f, h, lb, lx))) (place_cases x y))
    (λ e. ⊎_elim (λ f. inr (omega (arith, e, f, h, la, ly), omega (arith, e, f, h, la, ly))) (λ f. inl (omega (arith, e, f, h, la, lx), omega (arith, e, f, h, la, lx))) (place_cases x y))
    (place_cases a b)

are_matched : (a b x y : ℕ) → AreTheSame a b x y → ((eqb x a && eqb y b) || (eqb x b && eqb y a)) ≡ true
are_matched a b x y (inl e) = rw (eq-eqb x a e.0, eq-eqb y b e.1) refl
are_matched a b x y (inr e) = last (eqb x a && eqb y b) (eqb x b) (eqb y a) (eq-eqb x b e.0) (eq-eqb y a e.1)
  where
    last : (p q s : Bool) → q ≡ true → s ≡ true → (p || (q && s)) ≡ true
    last true q s e f = refl
    last false true s e f = f
    last false false s e f = absurd (cc)

-- one record more
pub counted_more : (records : List RecordEntry) (counts : List ℕ) (r : RecordEntry) (k n : ℕ) → length counts ≡ 256 → CountsRecords records counts → r.first < 16 → r.second < 16
    → k ≡ pair_index r.first r.second → k < 256 → n ≡ get_or counts k 0 + 1 → CountsRecords (records ++ r ∷ []) (set counts k n)
counted_more records counts r k n long ok lf ls at lt more a b la lb = by_test (lies_between a b r) refl
  where
    plus_none : (m : ℕ) → m ≡ m + 0
    plus_none m = omega arith

    pushed : (t : Bool) → lies_between a b r ≡ t → count_by (lies_between a b) (records ++ r ∷ []) ≡ count_by (lies_between a b) records + cond t 1 0
    pushed t e = sum_by_push (λ x. cond (lies_between a b x) 1 0) records r ∙ ap (λ c. count_by (lies_between a b) records + cond c 1 0) e

    by_test : (t : Bool) → lies_between a b r ≡ t → get_or (set counts k n) (pair_index a b) 0 ≡ count_by (lies_between a b) (records ++ r ∷ [])
    by_test true e =
        let same : pair_index a b ≡ k = one_place a b r.first r.second (in_either_order a b r.first r.second e) ∙ sym at in
        let old : get_or counts k 0 ≡ count_by (lies_between a b) records = ap (λ j. get_or counts j 0) (sym same) ∙ ok a b la lb in
        ap (λ j. get_or (set counts k n) j 0) same ∙ get_or-set_same counts k n 0 (omega (arith, lt, long)) ∙ more ∙ ap (λ c. c + 1) old ∙ sym (pushed true e)
    by_test false e =
        get_or-set_other counts k (pair_index a b) n 0 (λ same. both_ways (lies_between a b r) e (are_matched a b r.first r.second (same_at a b r.first r.second la lb lf ls (same ∙ at)))) ∙ ok a b la lb ∙ plus_none _ ∙ sym (pushed false e)

or_true : (x : Bool) → (x || true) ≡ true
or_true true = refl
or_true false = refl

or_false : (x : Bool) → (x || false) ≡ x
or_false true = refl
or_false false = refl

-- one pair more
pub marked_more : (pairs : List PairEntry) (marks : List Bool) (e : PairEntry) (k : ℕ) → length marks ≡ 256 → MarksPairs pairs marks → e.first < 16 → e.second < 16
    → k ≡ pair_index e.first e.second → k < 256 → MarksPairs (pairs ++ e ∷ []) (set marks k true)
marked_more pairs marks e k long ok lf ls at lt a b la lb = by_test (joins a b e) refl
  where
    pushed : (t : Bool) → joins a b e ≡ t → list_any (joins a b) (pairs ++ e ∷ []) ≡ (list_any (joins a b) pairs || t)
    pushed t h = list_any-append (joins a b) pairs (e ∷ []) ∙ ap (λ c. list_any (joins a b) pairs || c) (or_false (joins a b e) ∙ h)

    by_test : (t : Bool) → joins a b e ≡ t → get_or (set marks k true) (pair_index a b) false ≡ list_any (joins a b) (pairs ++ e ∷ [])
    by_test true h =
        let same : pair_index a b ≡ k = one_place a b e.first e.second (in_either_order a b e.first e.second h) ∙ sym at in
        ap (λ j. get_or (set marks k true) j false) same ∙ get_or-set_same marks k true false (omega (arith, lt, long)) ∙ sym (pushed true h ∙ or_true (list_any (joins a b) pairs))
    by_test false h =
        get_or-set_other marks k (pair_index a b) true false (λ same. both_ways (joins a b e) h (are_matched a b e.first e.second (same_at a b e.first e.second la lb lf ls (same ∙ at)))) ∙ ok a b la lb ∙ sym (pushed false h ∙ or_false (list_any (joins a b) pairs))

-- what is no office has no neighbours
pub no_neighbours : (p : PlanValue) (a b : ℕ) → IsConsistent p → (a < length p.offices → b < length p.offices → ⊥) → are_neighbours p a b ≡ false
no_neighbours p a b ok far =
    false_from_ne_true (are_neighbours p a b) (λ e. let ends = neighbours_are_offices p a b ok e in far ends.first ends.second)
