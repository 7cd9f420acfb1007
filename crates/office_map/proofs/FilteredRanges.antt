-- Numbers in order, and what is kept of them.
use Rattle.std.proofs.Common.{◌≡◌, ℕ, zero, suc, ◌+◌, ◌<◌, List, [], ◌∷◌, ◌++◌, length, map, Bool, true, false, cond, refl, sym, ap, ◌∙◌, arith, get_or, append-nil}
use Rattle.std.specs.List.{All, range_with_len, filter}
use Rattle.std.proofs.lemmas.List.FromFn.{length-range_with_len, get_or-range_with_len, length-map-range_with_len, get_or-map-range_with_len, map-range_with_len_more}
use Rattle.std.proofs.lemmas.List.Elements.{filter-append, All-filter}
use Rattle.office_map.specs.PlanValue.{PlanValue, neighbours_of, records_of}
use Rattle.office_map.specs.refinement.OfficeIndex.{index_of}

range_more : (a n : ℕ) → range_with_len a (suc n) ≡ range_with_len a n ++ (a + n) ∷ []
range_more a zero = let first : a ≡ a + 0 = omega arith in ap (λ k. k ∷ []) first
range_more a (suc n) =
    let last : a + 1 + n ≡ a + suc n = omega arith in
    ap (λ xs. a ∷ xs) (range_more (a + 1) n) ∙ ap (λ k. a ∷ (range_with_len (a + 1) n ++ k ∷ [])) last

pub filter_range_more : (p : ℕ → Bool) (n : ℕ) → filter p (range_with_len 0 (n + 1)) ≡ filter p (range_with_len 0 n) ++ cond (p n) (n ∷ []) []
filter_range_more p n =
    let last : 0 + n ≡ n = omega arith in
    let next : n + 1 ≡ suc n = omega arith in
    ap (λ k. filter p (range_with_len 0 k)) next ∙ ap (filter p) (range_more 0 n) ∙ filter-append p (range_with_len 0 n) ((0 + n) ∷ []) ∙ ap (λ k. filter p (range_with_len 0 n) ++ filter p (k ∷ [])) last

-- a number that passes is added, and one that does not is left out
pub number_kept : (p : ℕ → Bool) (n other : ℕ) (b : Bool) (old new : List ℕ) → b ≡ p other → other ≡ n → b ≡ true → old ≡ filter p (range_with_len 0 n) → new ≡ old ++ other ∷ [] → new ≡ filter p (range_with_len 0 (n + 1))
number_kept p n other b old new test same passed before after =
    let passes : p n ≡ true = ap p (sym same) ∙ sym test ∙ passed in
    rw (after, before, same, filter_range_more p n, passes) refl

pub number_left : (p : ℕ → Bool) (n other : ℕ) (b : Bool) (old new : List ℕ) → b ≡ p other → other ≡ n → b ≡ false → old ≡ filter p (range_with_len 0 n) → new ≡ old → new ≡ filter p (range_with_len 0 (n + 1))
number_left p n other b old new test same failed before after =
    let fails : p n ≡ false = ap p (sym same) ∙ sym test ∙ failed in
    rw (after, before, filter_range_more p n, fails) (sym (append-nil _))

-- what is kept is below the end
below_end : (n : ℕ) → All (λ k. k < n) (range_with_len 0 n)
below_end n = λ k d lt.
    let inside : k < n = omega (arith, length-range_with_len 0 n) in
    omega (arith, get_or-range_with_len 0 n k d inside)

pub kept_below : (p : ℕ → Bool) (n : ℕ) → All (λ k. k < n) (filter p (range_with_len 0 n))
kept_below p n = All-filter p (λ k. k < n) (range_with_len 0 n) (below_end n)

-- the index of each office
pub length-index : (p : PlanValue) (index : List (List ℕ × List ℕ)) → index ≡ index_of p → length index ≡ length p.offices
length-index p index e = ap length e ∙ length-map-range_with_len (λ office. (neighbours_of p office, records_of p office)) 0 (length p.offices)

pub index_at : (p : PlanValue) (index : List (List ℕ × List ℕ)) (i j : ℕ) (entry : List ℕ × List ℕ) → index ≡ index_of p → i < length p.offices → j ≡ i → entry ≡ get_or index j entry → entry ≡ (neighbours_of p i, records_of p i)
index_at p index i j entry e h same read =
    read ∙ ap (λ xs. get_or xs j entry) e ∙ ap (λ k. get_or (index_of p) k entry) same ∙ get_or-map-range_with_len (λ office. (neighbours_of p office, records_of p office)) 0 (length p.offices) i i entry h (omega arith)

pub index_more : (p : PlanValue) (n : ℕ) → map {B = List ℕ × List ℕ} (λ office. (neighbours_of p office, records_of p office)) (range_with_len 0 (n + 1)) ≡ map {B = List ℕ × List ℕ} (λ office. (neighbours_of p office, records_of p office)) (range_with_len 0 n) ++ (neighbours_of p n, records_of p n) ∷ []
index_more p n = map-range_with_len_more (λ office. (neighbours_of p office, records_of p office)) 0 n n (omega arith)
