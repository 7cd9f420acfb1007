-- The first place that passes, in a list that grows.
use Rattle.std.proofs.Common.{◌≡◌, ℕ, ◌+◌, ◌<◌, ◌≤◌, List, [], ◌∷◌, ◌++◌, length, get_or, Bool, true, false, not, ◌||◌, cond, eqb, nat_lt, Some, None, refl, sym, ap, ◌∙◌, arith, length-append}
use Rattle.std.specs.List.{position, position_or_len, list_any, find}
use Rattle.std.specs.Option.{option_or}
use Rattle.std.proofs.lemmas.Bool.Decides.{nat_tests}
use Rattle.std.proofs.lemmas.List.Folds.{position_or_len_push}
use Rattle.std.proofs.lemmas.List.Sums.{prefix_len-le-length, position_or_len_is}

shifted : (i n k : ℕ) (b : Bool) → i ≤ n → k ≡ cond (eqb i n) (n + cond b 0 1) i → cond (nat_lt k (n + 1)) (Some k) None ≡ option_or (cond (nat_lt i n) (Some i) None) (cond b (Some n) None)
shifted i n k true h e = grind (arith, nat_tests)
shifted i n k false h e = grind (arith, nat_tests)

pub position_push : {X : Type 0} (p : X → Bool) (xs : List X) (x : X) → position p (xs ++ x ∷ []) ≡ option_or (position p xs) (cond (p x) (Some (length xs)) None)
position_push p xs x =
    rw (length-append xs (x ∷ [])) (shifted (position_or_len p xs) (length xs) (position_or_len p (xs ++ x ∷ [])) (p x) (prefix_len-le-length (λ y. not (p y)) xs) (position_or_len_push p xs x))

-- where some element passes, one is found
not_lost : {X : Type 0} (p : X → Bool) (x : X) (xs : List X) (t : Bool) → (list_any p xs ≡ true → find p xs ≡ None → ⊥) → (t || list_any p xs) ≡ true → cond t (Some x) (find p xs) ≡ None → ⊥
not_lost p x xs true rest any none = (cc)
not_lost p x xs false rest any none = rest any none

pub found_if_any : {X : Type 0} (p : X → Bool) (xs : List X) → list_any p xs ≡ true → find p xs ≡ None → ⊥
found_if_any p [] any none = (cc)
found_if_any p (x ∷ xs) any none = not_lost p x xs (p x) (found_if_any p xs) any none

-- what is found passes
passes_here : {X : Type 0} (p : X → Bool) (x y : X) (xs : List X) → (find p xs ≡ Some y → p y ≡ true) → (t : Bool) → p x ≡ t → cond t (Some x) (find p xs) ≡ Some y → p y ≡ true
passes_here p x y xs rest true test is = let same : x ≡ y = cc in ap p (sym same) ∙ test
passes_here p x y xs rest false test is = rest is

pub found_passes : {X : Type 0} (p : X → Bool) (xs : List X) (y : X) → find p xs ≡ Some y → p y ≡ true
found_passes p [] y is = (cc)
found_passes p (x ∷ xs) y is = passes_here p x y xs (found_passes p xs y) (p x) refl is

-- where no element passes, none is found
past : (n : ℕ) → cond (nat_lt n n) (Some n) None ≡ None
past n = grind (arith, nat_tests)

pub found_nowhere : {X : Type 0} (p : X → Bool) (xs : List X) → ((k : ℕ) (d : X) → k < length xs → p (get_or xs k d) ≡ false) → position p xs ≡ None
found_nowhere p [] none = refl
found_nowhere p (x ∷ xs) none =
    let at : position_or_len p (x ∷ xs) ≡ length (x ∷ xs) = position_or_len_is p (x ∷ xs) (length (x ∷ xs)) x (omega arith) (λ k lt. none k x lt) (λ lt. absurd (omega arith)) in
    ap (λ k. cond (nat_lt k (length (x ∷ xs))) (Some k) None) at ∙ past (length (x ∷ xs))

-- the first that passes is found
pub found_first : {X : Type 0} (p : X → Bool) (xs : List X) (i : ℕ) → i < length xs → ((d : X) → p (get_or xs i d) ≡ true) → ((k : ℕ) (d : X) → k < i → p (get_or xs k d) ≡ false) → position p xs ≡ Some i
found_first p [] i lt here before = absurd (omega arith)
found_first p (x ∷ xs) i lt here before =
    let at : position_or_len p (x ∷ xs) ≡ i = position_or_len_is p (x ∷ xs) i x (omega arith) (λ k below. before k x below) (λ _. here x) in
    let within : nat_lt i (length (x ∷ xs)) ≡ true = grind (arith, nat_tests) in
    ap (λ k. cond (nat_lt k (length (x ∷ xs))) (Some k) None) at ∙ ap (λ b. cond b (Some i) None) within
