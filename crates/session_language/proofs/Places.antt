-- The place of a variable in a list, and the list with it.
use Rattle.std.proofs.Common.{◌≡◌, ℕ, suc, ◌≤◌, ◌+◌, List, [], ◌∷◌, ◌++◌, length, Bool, true, false, not, Some, None, is_some, unwrap_or, cond, if◌then◌else◌, nat_lt, refl, sym, ap, ◌∙◌, arith, length-append}
use Rattle.std.proofs.lemmas.Bool.Decides.{nat_tests}
use Rattle.std.proofs.lemmas.Slice.Eq.{bytes_eq-Decides}
use Rattle.std.specs.Str.{bytes_eq}
use Rattle.session_language.specs.Reading.{place_of, with_variable}
use Rattle.std.specs.List.{position, position_or_len}
use Rattle.text_lines.proofs.NamePlaces.{within, is_named}

-- a name at the end that was not there
absent : (k n : ℕ) → within k n ≡ None → n ≤ k
absent k n h = by_test (nat_lt k n) refl h
  where
    by_test : (b : Bool) → nat_lt k n ≡ b → cond b (Some k) None ≡ None → n ≤ k
    by_test true e f = (cc)
    by_test false e f = grind (arith, nat_tests)

len_push : {A : Type 0} (p : A → Bool) (xs : List A) (y : A) → p y ≡ true → length xs ≤ position_or_len p xs → position_or_len p (xs ++ y ∷ []) ≡ length xs
len_push p [] y e le = ap (λ b. cond (not b) 1 0) e
len_push p (x ∷ xs) y e le = by_test (p x) le (len_push p xs y e)
  where
    by_test : (b : Bool) → suc (length xs) ≤ cond (not b) (1 + position_or_len p xs) 0 → (length xs ≤ position_or_len p xs → position_or_len p (xs ++ y ∷ []) ≡ length xs)
        → cond (not b) (1 + position_or_len p (xs ++ y ∷ [])) 0 ≡ suc (length xs)
    by_test true k more = absurd (omega arith)
    by_test false k more = let r = more (omega arith) in omega arith

pub position-push : {A : Type 0} (p : A → Bool) (xs : List A) (y : A) → p y ≡ true → position p xs ≡ None → position p (xs ++ y ∷ []) ≡ Some (length xs)
position-push p xs y e none =
    let at = len_push p xs y e (absent (position_or_len p xs) (length xs) none) in
    let lt : nat_lt (length xs) (length (xs ++ y ∷ [])) ≡ true = let n = length-append xs (y ∷ []) in grind (arith, nat_tests) in
    ap (λ k. within k (length (xs ++ y ∷ []))) at ∙ ap (λ b. cond b (Some (length xs)) None) lt

same_name : (xs : List ℕ) → bytes_eq xs xs ≡ true
same_name xs = (bytes_eq-Decides xs xs).1 refl

module _ (name : List ℕ) (vs : List (List ℕ)) where
  pub place_there : (k : ℕ) → position (is_named name) vs ≡ Some k → (k ≡ place_of name vs) × (vs ≡ with_variable name vs)
  place_there k h = (sym (ap (λ o. unwrap_or o 0) h), sym (ap (λ o. if is_some o then vs else vs ++ name ∷ []) h))

  pub place_new : position (is_named name) vs ≡ None → (length vs ≡ place_of name (vs ++ name ∷ [])) × (vs ++ name ∷ [] ≡ with_variable name vs)
  place_new h = (sym (ap (λ o. unwrap_or o 0) (position-push (is_named name) vs name (same_name name) h)), sym (ap (λ o. if is_some o then vs else vs ++ name ∷ []) h))
