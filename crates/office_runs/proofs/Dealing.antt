-- Things that are dealt out by their numbers, and taken from either end.
use Rattle.std.proofs.Common.{◌≡◌, ℕ, zero, suc, ◌+◌, ◌<◌, List, [], ◌∷◌, ◌++◌, length, get_or, map, Some, refl, sym, ap, subst, ◌∙◌, arith}
use Rattle.std.specs.Prelude.{slice_get}
use Rattle.std.specs.List.{range_with_len, remove}
use Rattle.std.proofs.lemmas.List.{length_push, same_from_push}
use Rattle.std.proofs.lemmas.List.FromFn.{length-map-range_with_len, map-range_with_len_more}

module _ {X : Type 0} (f : ℕ → X) where
  -- those with n numbers, from a on
  abbrev pub Dealt : ℕ → ℕ → List X → Type 0
  Dealt a n xs = xs ≡ map f (range_with_len a n)

  pub dealt : (a n : ℕ) (xs : List X) → length xs ≡ n → ((t : ℕ) → t < n → slice_get xs t ≡ Some (f (a + t))) → Dealt a n xs
  dealt a zero [] count each = refl
  dealt a zero (x ∷ xs) count each = absurd (omega (arith, count))
  dealt a (suc n) [] count each = absurd (omega (arith, count))
  dealt a (suc n) (x ∷ xs) count each =
      let first : Some x ≡ Some (f (a + 0)) = each 0 (omega arith) in
      let same : a + 0 ≡ a = omega arith in
      let here : x ≡ f a = cc (first, same) in
      let others : Dealt (a + 1) n xs = dealt (a + 1) n xs (omega (arith, count)) (λ t lt. let shift : a + suc t ≡ a + 1 + t = omega arith in each (suc t) (omega (arith, lt)) ∙ ap (λ k. Some (f k)) shift) in
      cc (here, others)

  first_dealt : (a n : ℕ) (xs rest : List X) (x : X) → Dealt a (suc n) xs → x ≡ get_or xs 0 x → rest ≡ remove xs 0 → (x ≡ f a) × Dealt (a + 1) n rest
  first_dealt a n xs rest x all is left = (is ∙ ap (λ l. get_or l 0 x) all, left ∙ ap (λ l. remove l 0) all)

  pub last_dealt : (a : ℕ) (xs rest : List X) (x : X) → Dealt a (length xs) xs → xs ≡ rest ++ x ∷ [] → (x ≡ f (a + length rest)) × Dealt a (length rest) rest
  last_dealt a xs rest x all split =
      let n : ℕ = length rest in
      let more : Dealt a (n + 1) xs = subst (λ k. Dealt a k xs) (ap length split ∙ length_push rest x) all in
      let ends = same_from_push rest (map f (range_with_len a n)) x (f (a + n)) (sym split ∙ more ∙ map-range_with_len_more f a n (a + n) refl) in
      (ends.1, ends.0)

  -- two are taken from the front, and one from the end
  pub parted : (n : ℕ) (all one two three : List X) (x y z : X) → Dealt 0 (suc (suc (n + 1))) all → x ≡ get_or all 0 x → one ≡ remove all 0 → y ≡ get_or one 0 y → two ≡ remove one 0 → two ≡ three ++ z ∷ [] →
      (x ≡ f 0) × (y ≡ f 1) × (z ≡ f (2 + n)) × Dealt 2 n three
  parted n all one two three x y z dealt first others second rest last =
      let p = first_dealt 0 (suc (n + 1)) all one x dealt first others in
      let q = first_dealt 1 (n + 1) one two y p.1 second rest in
      let many : length two ≡ n + 1 = ap length q.1 ∙ length-map-range_with_len f 2 (n + 1) in
      let count : length three ≡ n = omega (arith, many, ap length last, length_push three z) in
      let r = last_dealt 2 two three z (subst (λ k. Dealt 2 k two) (sym many) q.1) last in
      (p.0, q.0, subst (λ k. z ≡ f (2 + k)) count r.0, subst (λ k. Dealt 2 k three) count r.1)
