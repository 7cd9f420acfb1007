-- An element of a list, and those before it.
use Rattle.std.proofs.Common.{◌≡◌, ◌≢◌, ℕ, ◌+◌, ◌<◌, ◌≤◌, List, [], ◌∷◌, ◌++◌, length, get_or, Bool, true, false, not, cond, nat_lt, nat_le, Some, None, refl, ap, ◌∙◌, subst, arith, length-append}
use Rattle.std.specs.Prelude.{All, AllPairs}
use Rattle.std.specs.List.{position, position_or_len, count_by}
use Rattle.std.specs.Str.{bytes_eq}
use Rattle.std.proofs.lemmas.Bool.{false_from_ne_true}
use Rattle.std.proofs.lemmas.Bool.Decides.{nat_tests}
use Rattle.std.proofs.lemmas.List.{get_or_append_left, get_or_at}
use Rattle.std.proofs.lemmas.List.Elements.{All-head, All-tail}
use Rattle.std.proofs.lemmas.List.Sums.{sum_by-cons}
use Rattle.std.proofs.lemmas.Slice.Eq.{bytes_eq-Decides}

pub same_bytes : (w : List ℕ) → bytes_eq w w ≡ true
same_bytes w = (bytes_eq-Decides w w).1 refl

pub other_bytes : (v w : List ℕ) → v ≢ w → bytes_eq v w ≡ false
other_bytes v w h = false_from_ne_true (bytes_eq v w) (λ e. h ((bytes_eq-Decides v w).0 e))

-- numbers and tests of them
pub not_at_least : (n c : ℕ) → c < n → nat_le n c ≡ false
not_at_least n c h = grind (arith, nat_tests)

-- the element in the middle
pub middle : {X : Type 0} (P : X → Type 0) (pre : List X) (x : X) (xs : List X) → All P (pre ++ x ∷ xs) → P x
middle P pre x xs h =
    let is : get_or (pre ++ x ∷ xs) (length pre) x ≡ x = get_or_at pre x xs x (length pre) refl in
    subst P is (h (length pre) x (omega (arith, length-append pre (x ∷ xs))))

-- how it stands to those before it
pub before_it : {X : Type 0} (R : X → X → Type 0) (pre : List X) (x : X) (xs : List X) → AllPairs R (pre ++ x ∷ xs) → All (λ y. R y x) pre
before_it {X} R pre x xs h = λ k d lt.
    let there : R (get_or (pre ++ x ∷ xs) k d) (get_or (pre ++ x ∷ xs) (length pre) d) = h k (length pre) d lt (omega (arith, length-append pre (x ∷ xs))) in
    let left : get_or (pre ++ x ∷ xs) k d ≡ get_or pre k d = get_or_append_left pre (x ∷ xs) d k lt in
    let right : get_or (pre ++ x ∷ xs) (length pre) d ≡ x = get_or_at pre x xs d (length pre) refl in
    let P : X → Type 0 = λ z. R z (get_or (pre ++ x ∷ xs) (length pre) d) in
    let Q : X → Type 0 = λ z. R (get_or pre k d) z in
    subst Q right (subst P left there)

none_from : {X : Type 0} (t : X → Bool) (xs : List X) → All (λ x. t x ≡ false) xs → position_or_len t xs ≡ length xs
none_from t [] h = refl
none_from {X} t (y ∷ ys) h =
    let P : X → Type 0 = λ x. t x ≡ false in
    ap (λ z. cond (not z) (1 + position_or_len t ys) 0) (All-head P y ys h)
    ∙ (let e = none_from t ys (All-tail P y ys h) in omega arith)

-- where no element passes
pub absent : {X : Type 0} (t : X → Bool) (xs : List X) → All (λ x. t x ≡ false) xs → position t xs ≡ None
absent t xs h =
    let e = none_from t xs h in
    let no : nat_lt (position_or_len t xs) (length xs) ≡ false = grind (arith, nat_tests) in
    ap (λ b. cond b (Some (position_or_len t xs)) None) no

-- of a name that none before it has
pub new_name : {X : Type 0} (f : X → List ℕ) (pre : List X) (x : X) (xs : List X) → AllPairs (λ a b. f a ≢ f b) (pre ++ x ∷ xs) → position (λ y. bytes_eq (f y) (f x)) pre ≡ None
new_name {X} f pre x xs h =
    let R : X → X → Type 0 = λ a b. f a ≢ f b in
    let differ = before_it R pre x xs h in
    absent (λ y. bytes_eq (f y) (f x)) pre (λ k d lt. other_bytes (f (get_or pre k d)) (f x) (differ k d lt))

-- one that passes counts beside those before it
pub counted : {X : Type 0} (t : X → Bool) (pre : List X) (x : X) (xs : List X) → t x ≡ true → count_by t pre + 1 ≤ count_by t (pre ++ x ∷ xs)
counted {X} t [] x xs h =
    let f : X → ℕ = λ y. cond (t y) 1 0 in
    let one : f x ≡ 1 = ap (λ b. cond b 1 0) h in
    omega (arith, sum_by-cons f x xs, one)
counted {X} t (y ∷ pre) x xs h =
    let f : X → ℕ = λ z. cond (t z) 1 0 in
    omega (arith, sum_by-cons f y pre, sum_by-cons f y (pre ++ x ∷ xs), counted t pre x xs h)
