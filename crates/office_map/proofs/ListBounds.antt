-- How many elements a list can have, where each key comes a few times.
use Rattle.std.proofs.Common.{◌≡◌, ℕ, zero, suc, ◌+◌, ◌*◌, ◌<◌, ◌≤◌, List, [], ◌∷◌, length, Bool, true, false, not, cond, eqb, refl, arith}
use Rattle.std.specs.List.{All, filter, count_by}
use Rattle.std.proofs.lemmas.Bool.{not-true, eqb-false}
use Rattle.std.proofs.lemmas.List.Elements.{All-head, All-filter, filter_passes}
use Rattle.std.proofs.lemmas.List.Filters.{length-filter_both}
use Rattle.std.proofs.lemmas.List.Sums.{sum_by-cons, length-filter}

-- an element that passes no test counts nothing
pub counted : {X : Type 0} (p : X → Bool) (x : X) (xs : List X) → count_by p (x ∷ xs) ≡ cond (p x) 1 0 + count_by p xs
counted p x xs = sum_by-cons (λ y. cond (p y) 1 0) x xs

one_more : {X : Type 0} (p q r : X → Bool) (x : X) (xs : List X) → (q x ≡ true → p x ≡ true → r x ≡ true) → count_by p (filter q xs) ≤ count_by r xs → (a b c : Bool) → q x ≡ a → p x ≡ b → r x ≡ c → count_by p (cond a (x ∷ filter q xs) (filter q xs)) ≤ cond c 1 0 + count_by r xs
one_more p q r x xs h rest false b c e f g = omega (arith, rest)
one_more p q r x xs h rest true false c e f g = rw (counted p x (filter q xs), f) (omega (arith, rest))
one_more p q r x xs h rest true true true e f g = rw (counted p x (filter q xs), f) (omega (arith, rest))
one_more p q r x xs h rest true true false e f g = let yes : r x ≡ true = h e f in let no : true ≡ false = cc in (cc)

-- what passes both tests passes r
pub count_by-filter : {X : Type 0} (p q r : X → Bool) (xs : List X) → ((x : X) → q x ≡ true → p x ≡ true → r x ≡ true) → count_by p (filter q xs) ≤ count_by r xs
count_by-filter p q r [] h = omega arith
count_by-filter p q r (x ∷ xs) h =
    rw (counted r x xs) (one_more p q r x xs (h x) (count_by-filter p q r xs h) (q x) (p x) (r x) refl refl refl)

below_next : (k n : ℕ) → k < suc n → not (eqb k n) ≡ true → k < n
below_next k n h other = let apart = eqb-false k n (not-true (eqb k n) other) in omega (arith, apart)

-- with n keys, of which none comes more than m times
pub length_by_key : {X : Type 0} (key : X → ℕ) (n m : ℕ) (xs : List X) → All (λ x. key x < n) xs → ((k : ℕ) → count_by (λ x. eqb (key x) k) xs ≤ m) → length xs ≤ n * m
length_by_key key zero m [] below few = omega arith
length_by_key key zero m (x ∷ xs) below few = let none = All-head (λ y. key y < 0) x xs below in absurd (omega (arith, none))
length_by_key {X} key (suc n) m xs below few =
    let other : X → Bool = λ x. not (eqb (key x) n) in
    let rest : List X = filter other xs in
    let keys : All (λ x. key x < n) rest = λ k d lt. below_next _ n (All-filter other (λ x. key x < suc n) xs below k d lt) (filter_passes other xs k d lt) in
    let fewer : (k : ℕ) → count_by (λ x. eqb (key x) k) rest ≤ m = λ k. omega (arith, count_by-filter (λ x. eqb (key x) k) other (λ x. eqb (key x) k) xs (λ x _ e. e), few k) in
    let short : length rest ≤ n * m = length_by_key key n m rest keys fewer in
    let parts : length (filter (λ x. eqb (key x) n) xs) + length rest ≡ length xs = length-filter_both (λ x. eqb (key x) n) other (λ _. refl) xs in
    let own : length (filter (λ x. eqb (key x) n) xs) ≡ count_by (λ x. eqb (key x) n) xs = length-filter (λ x. eqb (key x) n) xs in
    omega (arith, few n)
