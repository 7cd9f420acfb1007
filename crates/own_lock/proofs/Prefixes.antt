-- Beginnings of lists.
use Rattle.std.proofs.Common.{◌≡◌, ◌≤◌, Bool, true, false, nat_lt, ltb-true, ltb-false, List, [], ◌∷◌, ◌++◌, length, refl, ap, sym, ◌∙◌, arith, append_assoc, if◌then◌else◌}
use Rattle.std.proofs.lemmas.List.{append-nil}
use mathlib.Core.List.{IsPrefix}
use Rattle.own_lock.specs.Entries.{longer}

module _ {A : Type 0} where
  pub IsPrefix-refl : (xs : List A) → IsPrefix xs xs
  IsPrefix-refl xs = ([], append-nil xs)

  pub IsPrefix-trans : (xs ys zs : List A) → IsPrefix xs ys → IsPrefix ys zs → IsPrefix xs zs
  IsPrefix-trans xs ys zs p q = (p.0 ++ q.0, sym (append_assoc xs p.0 q.0) ∙ (ap (λ l. l ++ q.0) p.1 ∙ q.1))

  -- of two beginnings of one list the shorter one begins the longer one
  IsPrefix-shorter : (xs ys zs : List A) → IsPrefix xs zs → IsPrefix ys zs → length xs ≤ length ys → IsPrefix xs ys
  IsPrefix-shorter [] ys zs p q le = (ys, refl)
  IsPrefix-shorter (x ∷ xs) [] zs p q le = absurd (omega arith)
  IsPrefix-shorter (x ∷ xs) (y ∷ ys) [] p q le = absurd (cc p.1)
  IsPrefix-shorter (x ∷ xs) (y ∷ ys) (z ∷ zs) p q le =
      let same : x ≡ y = cc (p.1, q.1) in
      let tail = IsPrefix-shorter xs ys zs (p.0, cc p.1) (q.0, cc q.1) (omega arith) in
      (tail.0, cc (same, tail.1))

  -- The longer of two beginnings begins with both.
  abbrev Covers : List A → List A → List A → List A → Type 0
  Covers xs ys zs both = IsPrefix xs both × IsPrefix ys both × IsPrefix both zs

  covers_by : (b : Bool) (xs ys zs : List A) → nat_lt (length xs) (length ys) ≡ b → IsPrefix xs zs → IsPrefix ys zs → Covers xs ys zs (if b then ys else xs)
  covers_by true xs ys zs is p q = (IsPrefix-shorter xs ys zs p q (let lt = ltb-true _ _ is in omega arith), IsPrefix-refl ys, q)
  covers_by false xs ys zs is p q = (IsPrefix-refl xs, IsPrefix-shorter ys xs zs q p (let ge = ltb-false _ _ is in omega arith), p)

  pub longer-covers : (xs ys zs : List A) → IsPrefix xs zs → IsPrefix ys zs → Covers xs ys zs (longer xs ys)
  longer-covers xs ys zs p q = covers_by (nat_lt (length xs) (length ys)) xs ys zs refl p q
