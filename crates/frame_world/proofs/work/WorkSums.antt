-- Sums over lists of numbers: what changes at each place or at one, and records counted by their ends.
use Rattle.std.proofs.Common.{◌≡◌, ℕ, zero, suc, ◌+◌, ◌*◌, ◌<◌, ◌≤◌, Bool, true, false, cond, List, [], ◌∷◌, length, sum_by, count_by, slice_get, Some, Option, refl, sym, ap, subst, ◌∙◌, arith, ⊎_elim, eqb-true, eq-eqb}
use Rattle.std.specs.Prelude.{◌==◌}
use Rattle.std.specs.List.{range_with_len}
use Rattle.std.specs.Option.{option_map_or}
use Rattle.std.proofs.lemmas.Bool.{or_cases, or_left, or_right, cases_lt}
use Rattle.std.proofs.lemmas.List.Sums.{sum_by-cons, length-filter}
use Rattle.bottle_values.specs.Lists.{num, is_among}
use Rattle.bottle_values.specs.Maps.{put}
use Rattle.bottle_values.specs.MapLaws.{put_at, put_other}
use Rattle.office_map.specs.declared.entries.RecordEntry.{RecordEntry}
use Rattle.office_map.specs.PlanValue.{PlanValue, is_end, records_of, lies_between, has_ends, records_between}

-- ---- where each place grows by so much at most

module _ (f g h : ℕ → ℕ) where
  pub sum_by-more : (xs : List ℕ) → ((x : ℕ) → is_among xs x ≡ true → f x ≤ g x + h x) → sum_by f xs ≤ sum_by g xs + sum_by h xs
  sum_by-more [] le = omega arith
  sum_by-more (x ∷ xs) le =
      omega (
        arith,
        sum_by-cons f x xs,
        sum_by-cons g x xs,
        sum_by-cons h x xs,
        le x (or_left (x == x) (is_among xs x) (eq-eqb x x refl)),
        sum_by-more xs (λ y i. le y (or_right (x == y) (is_among xs y) i)),
      )

  -- and one of them by less
  pub sum_by-less : (d : ℕ) (xs : List ℕ) → ((x : ℕ) → is_among xs x ≡ true → f x ≤ g x + h x) → (y : ℕ) → is_among xs y ≡ true → f y + d ≤ g y + h y → sum_by f xs + d ≤ sum_by g xs + sum_by h xs
  sum_by-less d [] le y i less = absurd cc
  sum_by-less d (x ∷ xs) le y i less = ⊎_elim
      (λ here. omega (
        arith,
        sum_by-cons f x xs,
        sum_by-cons g x xs,
        sum_by-cons h x xs,
        subst (λ z. f z + d ≤ g z + h z) (sym (eqb-true x y here)) less,
        sum_by-more xs (λ z j. le z (or_right (x == z) (is_among xs z) j)),
      ))
      (λ later. omega (
        arith,
        sum_by-cons f x xs,
        sum_by-cons g x xs,
        sum_by-cons h x xs,
        le x (or_left (x == x) (is_among xs x) (eq-eqb x x refl)),
        sum_by-less d xs (λ z j. le z (or_right (x == z) (is_among xs z) j)) y later less,
      ))
      (or_cases (x == y) (is_among xs y) i)

-- ---- so much for each that passes

num_cond : (b : Bool) → num b ≡ cond b 1 0
num_cond true = refl
num_cond false = refl

sum_by-times : {X : Type 0} (n : ℕ) (p : X → Bool) (xs : List X) → sum_by (λ x. n * num (p x)) xs ≡ n * count_by p xs
sum_by-times n p [] = omega arith
sum_by-times n p (x ∷ xs) =
    sum_by-cons (λ x. n * num (p x)) x xs ∙ along (num (p x)) (cond (p x) 1 0) (sum_by (λ x. n * num (p x)) xs) (count_by p xs) (num_cond (p x)) (sum_by-times n p xs)
    ∙ ap (λ k. n * k) (sym (sum_by-cons (λ y. cond (p y) 1 0) x xs))
  where
    along : (a b s c : ℕ) → a ≡ b → s ≡ n * c → n * a + s ≡ n * (b + c)
    along a b s c e k = ap (λ z. n * z + s) e ∙ ap (λ z. n * b + z) k ∙ omega arith

-- ---- a sum over the places of a list

sum_by-places : {X : Type 0} (f : X → ℕ) (g : ℕ → ℕ) (xs : List X) (k : ℕ) → ((i : ℕ) (x : X) → slice_get xs i ≡ Some x → g (k + i) ≡ f x) → sum_by g (range_with_len k (length xs)) ≡ sum_by f xs
sum_by-places f g [] k h = refl
sum_by-places f g (x ∷ xs) k h =
    sum_by-cons g k (range_with_len (k + 1) (length xs)) ∙ omega (arith, first, sum_by-places f g xs (k + 1) later) ∙ sym (sum_by-cons f x xs)
  where
    first : g k ≡ f x
    first = let e : k ≡ k + 0 = omega arith in ap g e ∙ h 0 x refl

    later : (i : ℕ) (y : _) → slice_get xs i ≡ Some y → g (k + 1 + i) ≡ f y
    later i y e = let n : k + 1 + i ≡ k + suc i = omega arith in ap g n ∙ h (suc i) y e

-- ---- where one number of a range has another value

module _ {X : Type 0} (f : ℕ → X → ℕ) (g : ℕ → X) (a : ℕ) (y : X) where
  after_it : (n k : ℕ) → a < k → sum_by (λ x. f x (put g a y x)) (range_with_len k n) ≡ sum_by (λ x. f x (g x)) (range_with_len k n)
  after_it zero k lt = refl
  after_it (suc n) k lt =
      omega (
        arith,
        sum_by-cons (λ x. f x (put g a y x)) k (range_with_len (k + 1) n),
        sum_by-cons (λ x. f x (g x)) k (range_with_len (k + 1) n),
        ap (f k) (put_other g a y k (λ e. absurd (omega (arith, lt, e)))),
        after_it n (k + 1) (omega (arith, lt)),
      )

  pub one_changed : (n k : ℕ) → k ≤ a → a < k + n → sum_by (λ x. f x (put g a y x)) (range_with_len k n) + f a (g a) ≡ sum_by (λ x. f x (g x)) (range_with_len k n) + f a y
  one_changed zero k le lt = absurd (omega (arith, le, lt))
  one_changed (suc n) k le lt = ⊎_elim
      (λ less. omega (
        arith,
        sum_by-cons (λ x. f x (put g a y x)) k (range_with_len (k + 1) n),
        sum_by-cons (λ x. f x (g x)) k (range_with_len (k + 1) n),
        ap (f k) (put_other g a y k (λ e. absurd (omega (arith, less, e)))),
        one_changed n (k + 1) (omega (arith, less)) (omega (arith, lt)),
      ))
      (λ more. let is : k ≡ a = omega (arith, le, more) in omega (
        arith,
        sum_by-cons (λ x. f x (put g a y x)) k (range_with_len (k + 1) n),
        sum_by-cons (λ x. f x (g x)) k (range_with_len (k + 1) n),
        ap (f k) (put_at g a y k is) ∙ ap (λ j. f j y) is,
        ap (λ j. f j (g j)) is,
        after_it n (k + 1) (omega (arith, more)),
      ))
      (cases_lt k a)

-- ---- of records

pub sum_by-ends : (plan : PlanValue) (a : ℕ) → sum_by (λ r. 8 * num (is_end plan r a)) (range_with_len 0 (length plan.records)) ≡ 8 * length (records_of plan a)
sum_by-ends plan a = sum_by-times 8 (λ r. is_end plan r a) (range_with_len 0 (length plan.records)) ∙ ap (λ n. 8 * n) (sym (length-filter (λ r. is_end plan r a) (range_with_len 0 (length plan.records))))

pub sum_by-between : (plan : PlanValue) (a v : ℕ) → sum_by (λ r. 8 * num (has_ends plan r a v)) (range_with_len 0 (length plan.records)) ≡ 8 * records_between plan a v
sum_by-between plan a v =
    sum_by-places (λ e. 8 * num (lies_between a v e)) (λ r. 8 * num (has_ends plan r a v)) plan.records 0 there
    ∙ sum_by-times 8 (lies_between a v) plan.records
  where
    there : (i : ℕ) (e : RecordEntry) → slice_get plan.records i ≡ Some e → 8 * num (has_ends plan (0 + i) a v) ≡ 8 * num (lies_between a v e)
    there i e is = let n : 0 + i ≡ i = omega arith in ap (λ k. 8 * num (has_ends plan k a v)) n ∙ ap (λ (o : Option RecordEntry). 8 * num (option_map_or (lies_between a v) o false)) is
