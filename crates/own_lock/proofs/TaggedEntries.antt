-- The entries of one tag in lists that begin one another.
use Rattle.std.proofs.Common.{◌≡◌, ◌≢◌, ℕ, ◌==◌, true, false, List, [], ◌∷◌, ◌++◌, length, refl, ap, sym, ◌∙◌, arith, length-append, eq-eqb, ne_eqb}
use Rattle.std.proofs.lemmas.List.{append-nil, append_cancel_left}
use Rattle.std.proofs.lemmas.List.Elements.{filter-append}
use mathlib.Core.List.{IsPrefix}
use Rattle.own_lock.specs.Entries.{Every, tagged, AddsOnly}

pub Every-map : {A : Type 0} {P Q : A → Type 0} → ((x : A) → P x → Q x) → (xs : List A) → Every P xs → Every Q xs
Every-map f [] all = tt
Every-map f (x ∷ xs) all = (f x all.0, Every-map f xs all.1)

pub Every-zip : {A : Type 0} {P Q R : A → Type 0} → ((x : A) → P x → Q x → R x) → (xs : List A) → Every P xs → Every Q xs → Every R xs
Every-zip f [] all each = tt
Every-zip f (x ∷ xs) all each = (f x all.0 each.0, Every-zip f xs all.1 each.1)

module _ {E : Type 0} (tag_of : E → ℕ) where
  tagged-append : (t : ℕ) (xs ys : List E) → tagged tag_of t (xs ++ ys) ≡ tagged tag_of t xs ++ tagged tag_of t ys
  tagged-append t xs ys = filter-append (λ e. tag_of e == t) xs ys

  tagged-others : (t u : ℕ) → t ≢ u → (es : List E) → Every (λ e. tag_of e ≡ u) es → tagged tag_of t es ≡ []
  tagged-others t u ne [] all = refl
  tagged-others t u ne (e ∷ es) all =
      let other : (tag_of e == t) ≡ false = ne_eqb (tag_of e) t (λ same. ne (sym same ∙ all.0)) in
      rw other (tagged-others t u ne es all.1)

  tagged-all : (t : ℕ) (es : List E) → Every (λ e. tag_of e ≡ t) es → tagged tag_of t es ≡ es
  tagged-all t [] all = refl
  tagged-all t (e ∷ es) all = let same : (tag_of e == t) ≡ true = eq-eqb (tag_of e) t all.0 in rw same (ap (λ l. e ∷ l) (tagged-all t es all.1))

  pub AddsOnly-prefix : (u : ℕ) (old new : List E) → AddsOnly tag_of u old new → IsPrefix old new
  AddsOnly-prefix u old new adds = (adds.0, adds.1)

  -- what a pass adds leaves the entries of another as they were
  pub tagged-adds_other : (t u : ℕ) (old new : List E) → t ≢ u → AddsOnly tag_of u old new → tagged tag_of t new ≡ tagged tag_of t old
  tagged-adds_other t u old new ne adds =
      sym (ap (tagged tag_of t) adds.1) ∙ (tagged-append t old adds.0 ∙ (ap (λ l. tagged tag_of t old ++ l) (tagged-others t u ne adds.0 adds.2) ∙ append-nil _))

  -- and comes behind its own
  pub tagged-adds_own : (t : ℕ) (old added new : List E) → AddsOnly tag_of t old new → old ++ added ≡ new → tagged tag_of t new ≡ tagged tag_of t old ++ added
  tagged-adds_own t old added new adds is =
      let same : added ≡ adds.0 = append_cancel_left old added adds.0 (is ∙ sym adds.1) in
      sym (ap (tagged tag_of t) adds.1) ∙ (tagged-append t old adds.0 ∙ ap (λ l. tagged tag_of t old ++ l) (tagged-all t adds.0 adds.2 ∙ sym same))

  nil-of-length : (xs ys : List E) → length (xs ++ ys) ≡ length xs → ys ≡ []
  nil-of-length xs [] same = refl
  nil-of-length xs (y ∷ ys) same = absurd (omega (arith, length-append xs (y ∷ ys)))

  -- between two lists with the same entries of a tag
  pub tagged-between : (t : ℕ) (xs ys zs : List E) → IsPrefix xs ys → IsPrefix ys zs → tagged tag_of t xs ≡ tagged tag_of t zs → tagged tag_of t ys ≡ tagged tag_of t xs
  tagged-between t xs ys zs p q same =
      let F : List E → List E = tagged tag_of t in
      let first : F xs ++ F p.0 ≡ F ys = sym (tagged-append t xs p.0) ∙ ap F p.1 in
      let second : F ys ++ F q.0 ≡ F zs = sym (tagged-append t ys q.0) ∙ ap F q.1 in
      let no_more : length (F xs ++ F p.0) ≡ length (F xs) = omega (arith, length-append (F xs) (F p.0), length-append (F ys) (F q.0), ap length first, ap length second, ap length same) in
      sym first ∙ (ap (λ l. F xs ++ l) (nil-of-length (F xs) (F p.0) no_more) ∙ append-nil (F xs))
