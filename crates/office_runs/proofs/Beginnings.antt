-- Lists that begin one another, and the entries of a tag in them.
use Rattle.std.proofs.Common.{◌≡◌, ℕ, zero, suc, ◌==◌, ◌<◌, ◌≤◌, Bool, true, false, cond, List, [], ◌∷◌, ◌++◌, length, get_or, refl, sym, ap, ◌∙◌, append_assoc, append-nil, arith, eq-eqb, ⊎_elim}
use Rattle.std.specs.Prelude.{All}
use Rattle.std.proofs.lemmas.Bool.{cases_lt}
use Rattle.std.proofs.lemmas.List.Elements.{filter-append}
use mathlib.Core.List.{IsPrefix}
use Rattle.own_lock.specs.Entries.{tagged}

module _ {A : Type 0} where
  nothing_before : (xs ys : List A) → xs ++ ys ≡ [] → xs ≡ []
  nothing_before [] ys h = refl
  nothing_before (x ∷ xs) ys h = absurd (cc h)

  pub begins_itself : (xs : List A) → IsPrefix xs xs
  begins_itself xs = ([], append-nil xs)

  pub begins_all : (xs ys zs : List A) → IsPrefix xs ys → IsPrefix ys zs → IsPrefix xs zs
  begins_all xs ys zs p q = (p.0 ++ q.0, sym (append_assoc xs p.0 q.0) ∙ ap (λ l. l ++ q.0) p.1 ∙ q.1)

-- ---- entries of a tag

module _ {E : Type 0} (tag_of : E → ℕ) where
  pub tagged_begins : (t : ℕ) (xs ys : List E) → IsPrefix xs ys → IsPrefix (tagged tag_of t xs) (tagged tag_of t ys)
  tagged_begins t xs ys p = (tagged tag_of t p.0, sym (filter-append (λ e. tag_of e == t) xs p.0) ∙ ap (tagged tag_of t) p.1)

  pub none_before : (t : ℕ) (xs ys : List E) → IsPrefix xs ys → tagged tag_of t ys ≡ [] → tagged tag_of t xs ≡ []
  none_before t xs ys p none = let q = tagged_begins t xs ys p in nothing_before (tagged tag_of t xs) q.0 (q.1 ∙ none)

  none_kept : (b : Bool) (e : E) (es : List E) → cond b (e ∷ es) es ≡ [] → (b ≡ false) × (es ≡ [])
  none_kept true e es h = absurd (cc h)
  none_kept false e es h = (refl, h)

  -- each is among those of its tag
  has_its_tag : (es : List E) (i : ℕ) (d : E) → i < length es → tagged tag_of (tag_of (get_or es i d)) es ≡ [] → ⊥
  has_its_tag [] i d lt none = omega (arith, lt)
  has_its_tag (e ∷ es) zero d lt none = cc ((none_kept (tag_of e == tag_of e) e (tagged tag_of (tag_of e) es) none).0, eq-eqb (tag_of e) (tag_of e) refl)
  has_its_tag (e ∷ es) (suc i) d lt none = has_its_tag es i d (omega (arith, lt)) (none_kept (tag_of e == tag_of (get_or es i d)) e (tagged tag_of (tag_of (get_or es i d)) es) none).1

  -- where none has one of the tags from m to n
  pub tags_below : (m n : ℕ) (es : List E) → All (λ e. tag_of e < n) es → ((t : ℕ) → m ≤ t → t < n → tagged tag_of t es ≡ []) → All (λ e. tag_of e < m) es
  tags_below m n es below none i d lt = ⊎_elim (λ less. less) (λ more. absurd (has_its_tag es i d lt (none (tag_of (get_or es i d)) more (below i d lt)))) (cases_lt (tag_of (get_or es i d)) m)
