-- What follows of lists, of those of numbers, and of a truth as a number.
use Rattle.std.proofs.Common.{◌≡◌, ℕ, zero, suc, ◌+◌, ◌<◌, ◌≤◌, Bool, true, false, ◌&&◌, cond, List, [], ◌∷◌, ◌++◌, length, take, drop, get_or, set, refl, sym, ap, ◌∙◌, arith, inl, inr, ◌⊎◌, ⊎_elim}
use Rattle.std.specs.Prelude.{Some, map, filter, find, slice_get, ◌==◌}
use Rattle.std.specs.List.{list_all, range_with_len}
use Rattle.std.proofs.lemmas.Bool.{cases_Bool, eq-eqb, eqb-true, or_left, or_right, or_cases, and_parts, and_from}
use Rattle.std.proofs.lemmas.List.{get_or_default, take_more}
use Rattle.std.proofs.lemmas.List.Edits.{map_over_more}
use Rattle.std.proofs.lemmas.List.FromFn.{map-range_with_len_more}
use Rattle.std.proofs.lemmas.Option.{slice_get_within, get_or_from_slice_get}
use Rattle.bottle_values.specs.Lists.{num, is_among}

-- ---- lists of anything

-- where the first i elements are mapped, and one more
pub map_next : {X : Type 0} (f : X → X) (before now : List X) (i : ℕ) (d x : X) → i < length before → length now ≡ length before → now ≡ map f (take i before) ++ drop i before → x ≡ f (get_or now i d) →
    set now i x ≡ map f (take (i + 1) before) ++ drop (i + 1) before
map_next f before now i d x lt same so_far is =
    ap (set now i) is ∙ map_over_more f before now i (get_or now i d) lt so_far (get_or_default now i d (get_or now i d) (omega arith))

-- a list that is made of the first n numbers, and of one more
pub mapped_more : {X : Type 0} (f : ℕ → X) (n r : ℕ) (before after : List X) (x : X) → r ≡ n → before ≡ map f (range_with_len 0 n) → x ≡ f r → after ≡ before ++ x ∷ [] → after ≡ map f (range_with_len 0 (n + 1))
mapped_more f n r before after x same so_far is grown =
    grown ∙ ap (λ l. l ++ x ∷ []) so_far ∙ ap (λ y. map f (range_with_len 0 n) ++ y ∷ []) (is ∙ ap f same) ∙ sym (map-range_with_len_more f 0 n n (omega arith))

-- the first i elements, and one more
pub first_more : {X : Type 0} (xs : List X) (i : ℕ) (x : X) → slice_get xs i ≡ Some x → take (i + 1) xs ≡ take i xs ++ x ∷ []
first_more xs i x at = take_more xs i x (slice_get_within xs i x at) ∙ ap (λ y. take i xs ++ y ∷ []) (get_or_from_slice_get xs i x x at)

-- an element behind those that were dropped
pub get-drop : {X : Type 0} (xs : List X) (n k : ℕ) → slice_get (drop n xs) k ≡ slice_get xs (n + k)
get-drop xs zero k = let e : k ≡ 0 + k = omega arith in ap (slice_get xs) e
get-drop [] (suc n) k = refl
get-drop (x ∷ xs) (suc n) k = let e : suc (n + k) ≡ suc n + k = omega arith in get-drop xs n k ∙ ap (slice_get (x ∷ xs)) e

-- an element of a list with one changed is that one, or was there
pub get-set : {X : Type 0} (xs : List X) (i k : ℕ) (v d y : X) → get_or (set xs i v) k d ≡ y → ((k ≡ i) × (v ≡ y)) ⊎ (get_or xs k d ≡ y)
get-set [] i k v d y e = inr e
get-set (x ∷ xs) zero zero v d y e = inl (refl, e)
get-set (x ∷ xs) zero (suc k) v d y e = inr e
get-set (x ∷ xs) (suc i) zero v d y e = inr e
get-set (x ∷ xs) (suc i) (suc k) v d y e = elim (get-set xs i k v d y e) [
  | inl same ↦ inl (ap suc same.0, same.1)
  | inr old ↦ inr old
]

pub nothing_at : {X : Type 0} (k : ℕ) (x : X) → slice_get [] k ≡ Some x → ⊥
nothing_at k x e = cc

-- an element of two lists that are joined
pub get_push : {X : Type 0} (xs : List X) (y x : X) (k : ℕ) → slice_get (xs ++ y ∷ []) k ≡ Some x → (slice_get xs k ≡ Some x) ⊎ (y ≡ x)
get_push [] y x zero e = inr cc
get_push [] y x (suc k) e = inl e
get_push (z ∷ xs) y x zero e = inl e
get_push (z ∷ xs) y x (suc k) e = get_push xs y x k e

pub get_left : {X : Type 0} (xs ys : List X) (k : ℕ) (x : X) → slice_get xs k ≡ Some x → slice_get (xs ++ ys) k ≡ Some x
get_left [] ys k x e = cc
get_left (z ∷ xs) ys zero x e = e
get_left (z ∷ xs) ys (suc k) x e = get_left xs ys k x e

pub get_right : {X : Type 0} (xs ys : List X) (k : ℕ) (x : X) → slice_get ys k ≡ Some x → (j : ℕ) × (slice_get (xs ++ ys) j ≡ Some x)
get_right [] ys k x e = (k, e)
get_right (z ∷ xs) ys k x e = let r = get_right xs ys k x e in (suc r.0, r.1)

pub at_seam : {X : Type 0} (xs : List X) (y : X) (ys : List X) → slice_get (xs ++ y ∷ ys) (length xs) ≡ Some y
at_seam [] y ys = refl
at_seam (z ∷ xs) y ys = at_seam xs y ys

-- tests that are the same find the same
pub find_same : {X : Type 0} (f g : X → Bool) → ((x : X) → f x ≡ g x) → (xs : List X) → find f xs ≡ find g xs
find_same f g h [] = refl
find_same f g h (x ∷ xs) = ap (λ b. cond b (Some x) (find f xs)) (h x) ∙ ap (cond (g x) (Some x)) (find_same f g h xs)

-- a weaker test passes where this one does
pub all_weaker : {X : Type 0} (p q : X → Bool) → ((x : X) → p x ≡ true → q x ≡ true) → (xs : List X) → list_all p xs ≡ true → list_all q xs ≡ true
all_weaker p q h [] all = refl
all_weaker p q h (x ∷ xs) all =
    let parts = and_parts (p x) (list_all p xs) all in and_from (q x) (list_all q xs) (h x parts.0) (all_weaker p q h xs parts.1)

-- ---- truths

-- both aren't, so where one is the other isn't
pub other_false : (b c : Bool) → (b && c) ≡ false → b ≡ true → c ≡ false
other_false true c e f = e
other_false false c e f = absurd cc

pub num_one : (b : Bool) → num b ≤ 1
num_one true = omega arith
num_one false = omega arith

pub true_of : (b : Bool) → 1 ≤ num b → b ≡ true
true_of true h = refl
true_of false h = absurd (omega (arith, h))

-- ---- lists of numbers

-- of a list where not all pass a test, one that doesn't
pub one_fails : (f : ℕ → Bool) (xs : List ℕ) → list_all f xs ≡ false → (v : ℕ) × (is_among xs v ≡ true) × (f v ≡ false)
one_fails f [] e = absurd cc
one_fails f (x ∷ xs) e = ⊎_elim
    (λ t. let k : (v : ℕ) × (is_among xs v ≡ true) × (f v ≡ false) = one_fails f xs (other_false (f x) (list_all f xs) e t) in (k.0, or_right (x == k.0) (is_among xs k.0) k.1, k.2))
    (λ n. (x, or_left (x == x) (is_among xs x) (eq-eqb x x refl), n))
    (cases_Bool (f x))

-- what a test lets through passes it
pub passed : (g : ℕ → Bool) (xs : List ℕ) (v : ℕ) → is_among (filter g xs) v ≡ true → g v ≡ true
passed g [] v e = absurd cc
passed g (x ∷ xs) v e = go (g x) refl (passed g xs v) e
  where
    go : (b : Bool) → g x ≡ b → (is_among (filter g xs) v ≡ true → g v ≡ true) → is_among (cond b (x ∷ filter g xs) (filter g xs)) v ≡ true → g v ≡ true
    go true is later e = ⊎_elim (λ s. ap g (sym (eqb-true x v s)) ∙ is) later (or_cases (x == v) (is_among (filter g xs) v) e)
    go false is later e = later e
