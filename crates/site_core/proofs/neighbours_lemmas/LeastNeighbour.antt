-- The least neighbour of whom something holds is the first of the list.
use Rattle.std.proofs.Common.{◌≡◌, ℕ, zero, suc, ◌+◌, ◌<◌, ◌≤◌, Bool, true, false, cond, List, [], ◌∷◌, Option, None, Some, refl, sym, ap, ◌∙◌, arith, ⊎_elim}
use Rattle.std.specs.Prelude.{◌==◌, ◌&&◌, find, filter}
use Rattle.std.specs.List.{range_with_len}
use Rattle.std.proofs.lemmas.Bool.{eqb-true, cases_Bool, or_cases}
use Rattle.dining_core.specs.masks.Sets.{IsLeast}
use Rattle.bottle_values.specs.Lists.{is_among}
use Rattle.office_map.specs.NeighbourLaws.{among_those}

-- looked for among those that pass the first test, or by both tests among all
find_kept : (q g : ℕ → Bool) (ys : List ℕ) → find g (filter q ys) ≡ find (λ x. q x && g x) ys
find_kept q g [] = refl
find_kept q g (y ∷ ys) = go (find_kept q g ys) (q y) refl
  where
    go : find g (filter q ys) ≡ find (λ x. q x && g x) ys → (b : Bool) → q y ≡ b → find g (cond b (y ∷ filter q ys) (filter q ys)) ≡ cond (q y && g y) (Some y) (find (λ x. q x && g x) ys)
    go later true e = ap (λ o. cond (g y) (Some y) o) later ∙ sym (ap (λ b. cond (b && g y) (Some y) (find (λ x. q x && g x) ys)) e)
    go later false e = later ∙ sym (ap (λ b. cond (b && g y) (Some y) (find (λ x. q x && g x) ys)) e)

none_in : (p : ℕ → Bool) (a n : ℕ) → ((v : ℕ) → a ≤ v → v < a + n → p v ≡ false) → find p (range_with_len a n) ≡ None
none_in p a zero none = refl
none_in p a (suc n) none =
    ap (λ b. cond b (Some a) (find p (range_with_len (a + 1) n))) (none a (omega arith) (omega arith))
    ∙ none_in p (a + 1) n (λ v low high. none v (omega (arith, low)) (omega (arith, high)))

first_in : (p : ℕ → Bool) (a n k : ℕ) → k < n → p (a + k) ≡ true → ((j : ℕ) → j < k → p (a + j) ≡ false) → find p (range_with_len a n) ≡ Some (a + k)
first_in p a zero k lt is none = absurd (omega (arith, lt))
first_in p a (suc n) zero lt is none =
    let here : a + 0 ≡ a = omega arith in
    ap (λ b. cond b (Some a) (find p (range_with_len (a + 1) n))) (ap p (sym here) ∙ is) ∙ ap Some (sym here)
first_in p a (suc n) (suc k) lt is none =
    let here : a + 0 ≡ a = omega arith in
    let next : a + suc k ≡ a + 1 + k = omega arith in
    ap (λ b. cond b (Some a) (find p (range_with_len (a + 1) n))) (ap p (sym here) ∙ none 0 (omega arith))
    ∙ first_in p (a + 1) n k (omega (arith, lt)) (ap p (sym next) ∙ is) (λ j below. let same : a + suc j ≡ a + 1 + j = omega arith in ap p (sym same) ∙ none (suc j) (omega (arith, below)))
    ∙ ap Some (sym next)

passes : (q : ℕ → Bool) (ys : List ℕ) (v : ℕ) → is_among (filter q ys) v ≡ true → q v ≡ true
passes q [] v e = absurd cc
passes q (y ∷ ys) v e = go (passes q ys v) (q y) refl e
  where
    go : (is_among (filter q ys) v ≡ true → q v ≡ true) → (b : Bool) → q y ≡ b → is_among (cond b (y ∷ filter q ys) (filter q ys)) v ≡ true → q v ≡ true
    go later true h k = ⊎_elim (λ s. ap q (sym (eqb-true y v s)) ∙ h) (λ s. later s) (or_cases (y == v) (is_among (filter q ys) v) k)
    go later false h k = later k

below : (q : ℕ → Bool) (a n v : ℕ) → is_among (filter q (range_with_len a n)) v ≡ true → v < a + n
below q a zero v e = absurd cc
below q a (suc n) v e = go (λ s. below q (a + 1) n v s) (q a) refl e
  where
    go : (is_among (filter q (range_with_len (a + 1) n)) v ≡ true → v < a + 1 + n) → (b : Bool) → q a ≡ b → is_among (cond b (a ∷ filter q (range_with_len (a + 1) n)) (filter q (range_with_len (a + 1) n))) v ≡ true → v < a + suc n
    go later true h k = ⊎_elim (λ s. omega (arith, eqb-true a v s)) (λ s. omega (arith, later s)) (or_cases (a == v) (is_among (filter q (range_with_len (a + 1) n)) v) k)
    go later false h k = omega (arith, later k)

among_is : (q : ℕ → Bool) (n v : ℕ) → v < n → is_among (filter q (range_with_len 0 n)) v ≡ q v
among_is q n v lt = ⊎_elim
    (λ t. among_those q n v lt t ∙ sym t)
    (λ f. ⊎_elim (λ t. absurd (let bad : false ≡ true = sym f ∙ passes q (range_with_len 0 n) v t in cc)) (λ e. e ∙ sym f) (cases_Bool (is_among (filter q (range_with_len 0 n)) v)))
    (cases_Bool (q v))

both_first : (a b : Bool) → (a && b) ≡ true → a ≡ true
both_first true b e = refl
both_first false b e = absurd cc

pub least_found : (q g : ℕ → Bool) (n : ℕ) (o : Option ℕ) → n ≤ 16 → IsLeast 16 (λ v. is_among (filter q (range_with_len 0 n)) v && g v) o → find g (filter q (range_with_len 0 n)) ≡ o
least_found q g n None few least =
    find_kept q g (range_with_len 0 n)
    ∙ none_in (λ x. q x && g x) 0 n (λ v low high. ap (λ b. b && g v) (sym (among_is q n v (omega (arith, high)))) ∙ least v (omega (arith, high, few)))
least_found q g n (Some k) few least =
    let within : k < n = omega (arith, below q 0 n k (both_first (is_among (filter q (range_with_len 0 n)) k) (g k) least.1)) in
    let here : 0 + k ≡ k = omega arith in
    find_kept q g (range_with_len 0 n)
    ∙ first_in (λ x. q x && g x) 0 n k within
    (ap (λ x. q x && g x) here ∙ ap (λ b. b && g k) (sym (among_is q n k within)) ∙ least.1)
    (λ j lt. let there : 0 + j ≡ j = omega arith in ap (λ x. q x && g x) there ∙ ap (λ b. b && g j) (sym (among_is q n j (omega (arith, lt, within)))) ∙ least.2 j lt)
    ∙ ap Some here
