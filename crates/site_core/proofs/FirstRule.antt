-- The first rule of a list that may be done, looked for one after the other.
use Rattle.std.proofs.Common.{◌≡◌, ℕ, Bool, true, false, cond, List, [], ◌∷◌, ◌++◌, map, Option, None, Some, refl, sym, ap, ◌∙◌}
use Rattle.std.specs.Prelude.{◌&&◌, find, filter, option_map}
use mathlib.Core.Path.{fun_ext}

pub skipped : {A : Type 0} (p : A → Bool) (x : A) (xs : List A) → find p (x ∷ xs) ≡ None → (p x ≡ false) × (find p xs ≡ None)
skipped p x xs e = go (p x) refl e
  where
    go : (b : Bool) → p x ≡ b → cond b (Some x) (find p xs) ≡ None → (p x ≡ false) × (find p xs ≡ None)
    go true h k = absurd cc
    go false h k = (h, k)

find_append : {A : Type 0} (p : A → Bool) (xs ys : List A) → find p xs ≡ None → find p (xs ++ ys) ≡ find p ys
find_append p [] ys e = refl
find_append p (x ∷ xs) ys e =
    let before = skipped p x xs e in
    ap (λ b. cond b (Some x) (find p (xs ++ ys))) before.0 ∙ find_append p xs ys before.1

-- where none of two lists is found, none of either is
pub none_before : {A : Type 0} (p : A → Bool) (xs ys : List A) → find p (xs ++ ys) ≡ None → find p xs ≡ None
none_before p [] ys e = refl
none_before p (x ∷ xs) ys e =
    let first = skipped p x (xs ++ ys) e in
    ap (λ b. cond b (Some x) (find p xs)) first.0 ∙ none_before p xs ys first.1

pub none_after : {A : Type 0} (p : A → Bool) (xs ys : List A) → find p (xs ++ ys) ≡ None → find p ys ≡ None
none_after p [] ys e = e
none_after p (x ∷ xs) ys e = none_after p xs ys (skipped p x (xs ++ ys) e).1

pub found_before : {A : Type 0} (p : A → Bool) (xs ys : List A) (x : A) → find p xs ≡ Some x → find p (xs ++ ys) ≡ Some x
found_before p [] ys x e = absurd cc
found_before p (z ∷ xs) ys x e = go (found_before p xs ys x) (p z) refl e
  where
    go : (find p xs ≡ Some x → find p (xs ++ ys) ≡ Some x) → (b : Bool) → p z ≡ b → cond b (Some z) (find p xs) ≡ Some x → find p (z ∷ (xs ++ ys)) ≡ Some x
    go later true h k = ap (λ b. cond b (Some z) (find p (xs ++ ys))) h ∙ k
    go later false h k = ap (λ b. cond b (Some z) (find p (xs ++ ys))) h ∙ later k

pub found_after : {A : Type 0} (p : A → Bool) (xs ys : List A) (o : Option A) → find p xs ≡ None → find p ys ≡ o → find p (xs ++ ys) ≡ o
found_after p xs ys o e h = find_append p xs ys e ∙ h

-- ---- the first of those that pass a test, where the guard asks for the test

kept_first : (q g : ℕ → Bool) (ys : List ℕ) → find (λ x. q x && g x) (filter q ys) ≡ find g (filter q ys)
kept_first q g [] = refl
kept_first q g (y ∷ ys) = go (kept_first q g ys) (q y) refl
  where
    go : find (λ x. q x && g x) (filter q ys) ≡ find g (filter q ys) → (b : Bool) → q y ≡ b → find (λ x. q x && g x) (cond b (y ∷ filter q ys) (filter q ys)) ≡ find g (cond b (y ∷ filter q ys) (filter q ys))
    go later true e = ap (λ b. cond (b && g y) (Some y) (find (λ x. q x && g x) (filter q ys))) e ∙ ap (λ o. cond (g y) (Some y) o) later
    go later false e = later

find_mapped : {A : Type 0} (p : A → Bool) (f : ℕ → A) (xs : List ℕ) → find p (map f xs) ≡ option_map f (find (λ x. p (f x)) xs)
find_mapped p f [] = refl
find_mapped p f (x ∷ xs) = go (find_mapped p f xs) (p (f x)) refl
  where
    go : find p (map f xs) ≡ option_map f (find (λ z. p (f z)) xs) → (b : Bool) → p (f x) ≡ b → find p (map f (x ∷ xs)) ≡ option_map f (find (λ z. p (f z)) (x ∷ xs))
    go later true e = ap (λ b. cond b (Some (f x)) (find p (map f xs))) e ∙ sym (ap (λ b. option_map f (cond b (Some x) (find (λ z. p (f z)) xs))) e)
    go later false e = ap (λ b. cond b (Some (f x)) (find p (map f xs))) e ∙ later ∙ sym (ap (λ b. option_map f (cond b (Some x) (find (λ z. p (f z)) xs))) e)

pub first_kept : {A : Type 0} (p : A → Bool) (f : ℕ → A) (q g : ℕ → Bool) (ys : List ℕ) (o : Option ℕ) → ((x : ℕ) → p (f x) ≡ (q x && g x)) → o ≡ find g (filter q ys) → find p (map f (filter q ys)) ≡ option_map f o
first_kept p f q g ys o guard is =
    find_mapped p f (filter q ys) ∙ ap (λ (t : ℕ → Bool). option_map f (find t (filter q ys))) (fun_ext guard) ∙ ap (option_map f) (kept_first q g ys ∙ sym is)
