-- Marks of bytes, and the places that they tell.
use Rattle.std.proofs.Common.{◌≡◌, ℕ, zero, suc, ◌+◌, ◌-◌, ◌*◌, ◌/◌, ◌<◌, ◌≤◌, ◌^◌, Bool, true, false, not, cond, List, [], ◌∷◌, length, map, take, drop, get_or, refl, sym, ap, ◌∙◌, arith, ⊎_elim}
use Rattle.std.proofs.Math.Nat.{pow-suc, mul_comm, div-div-eq-div-mul}
use Rattle.std.specs.List.{list_all, prefix_len, position_or_len}
use Rattle.std.specs.Simd.Lanes.{mask_l}
use Rattle.std.specs.Int.Count.{count_trailing_zeros, trailing_of_zero}
use Rattle.std.proofs.lemmas.Bool.{and_parts, not-true, not-false, cases_eq}
use Rattle.std.proofs.lemmas.Bool.Decides.{nat_tests}
use Rattle.std.proofs.lemmas.List.{length-drop, length-take-le, drop-take, drop-map, take-append-drop, get_or-take}
use Rattle.std.proofs.lemmas.List.Folds.{list_all-append}
use Rattle.std.proofs.lemmas.List.Sums.{position_or_len_is, prefix_len_passes, prefix_len_stops, prefix_len-le-length}
use Rattle.std.proofs.lemmas.Simd.{trailing_mask_l, leading_from_mask_l}
use Rattle.text_lines.specs.Text.{is_blank, is_plain}
use Rattle.text_lines.specs.marked.refinement.Marks.{is_low, low_marks, IsMarked}

-- ---- marks that go on

half : (b : Bool) (n : ℕ) → (cond b 1 0 + 2 * n) / 2 ≡ n
half true n = omega arith
half false n = omega arith

-- without the first so many bytes
shifted : (k : ℕ) (ms : List Bool) → mask_l ms / 2 ^ k ≡ mask_l (drop k ms)
shifted zero ms = omega arith
shifted (suc k) [] = omega arith
shifted (suc k) (b ∷ ms) =
    ap (λ n. mask_l (b ∷ ms) / n) (pow-suc 2 k ∙ mul_comm (2 ^ k) 2) ∙ sym (div-div-eq-div-mul (mask_l (b ∷ ms)) 2 (2 ^ k)) ∙ ap (λ n. n / 2 ^ k) (half b (mask_l ms)) ∙ shifted k ms

-- without so many and one more
shifted_past : (k : ℕ) (ms : List Bool) → mask_l ms / 2 / 2 ^ k ≡ mask_l (drop (suc k) ms)
shifted_past k [] = omega arith
shifted_past k (b ∷ ms) = ap (λ n. n / 2 ^ k) (half b (mask_l ms)) ∙ shifted k ms

marks_left : (at seen : ℕ) (text : List ℕ) → at < seen → low_marks (take seen text) / 2 / 2 ^ at ≡ low_marks (take (seen - (at + 1)) (drop (at + 1) text))
marks_left at seen text less =
    let one : suc at ≡ at + 1 = omega arith in
    let all : seen ≡ at + 1 + (seen - (at + 1)) = omega (arith, less) in
    shifted_past at (map is_low (take seen text))
    ∙ ap (λ n. mask_l (drop n (map is_low (take seen text)))) one
    ∙ ap mask_l (drop-map is_low (at + 1) (take seen text))
    ∙ ap (λ n. mask_l (map is_low (drop (at + 1) (take n text)))) all
    ∙ ap (λ l. mask_l (map is_low l)) (drop-take (at + 1) (seen - (at + 1)) text)

-- ---- a line that is left

pub line_left : (at end : ℕ) (text : List ℕ) → at < end → take (end - (at + 1)) (drop (at + 1) text) ≡ drop (at + 1) (take end text)
line_left at end text less =
    let all : at + 1 + (end - (at + 1)) ≡ end = omega (arith, less) in
    sym (drop-take (at + 1) (end - (at + 1)) text) ∙ ap (λ n. drop (at + 1) (take n text)) all

plain_rest : (n : ℕ) (xs : List ℕ) → list_all is_plain xs ≡ true → list_all is_plain (drop n xs) ≡ true
plain_rest n xs h =
    let both = sym (list_all-append is_plain (take n xs) (drop n xs)) ∙ ap (list_all is_plain) (take-append-drop n xs) ∙ h in
    (and_parts (list_all is_plain (take n xs)) (list_all is_plain (drop n xs)) both).1

plain_left : (at end : ℕ) (text : List ℕ) → at < end → list_all is_plain (take end text) ≡ true → list_all is_plain (take (end - (at + 1)) (drop (at + 1) text)) ≡ true
plain_left at end text less h = ap (list_all is_plain) (line_left at end text less) ∙ plain_rest (at + 1) (take end text) h

pub marked_left : (text : List ℕ) (end low seen at : ℕ) → IsMarked text end low seen → at < end → at < seen → IsMarked (drop (at + 1) text) (end - (at + 1)) (low / 2 / 2 ^ at) (seen - (at + 1))
marked_left text end low seen at m inside less =
    let long : length (drop (at + 1) text) ≡ length text - (at + 1) = length-drop (at + 1) text in
    record {
      within = omega (arith, m.within, long, inside);
      few = omega (arith, m.few);
      there = omega (arith, m.there, long);
      marks = ap (λ n. n / 2 / 2 ^ at) m.marks ∙ marks_left at seen text less;
      plain = plain_left at end text inside m.plain;
    }

pub unmarked : (text : List ℕ) (end : ℕ) → end ≤ length text → list_all is_plain (take end text) ≡ true → IsMarked text end 0 0
unmarked text end within plain = record { within = within; few = omega arith; there = omega arith; marks = refl; plain = plain }

pub unmarked_left : (text : List ℕ) (end low seen at : ℕ) → IsMarked text end low seen → at < end → IsMarked (drop (at + 1) text) (end - (at + 1)) 0 0
unmarked_left text end low seen at m inside =
    let long : length (drop (at + 1) text) ≡ length text - (at + 1) = length-drop (at + 1) text in
    unmarked (drop (at + 1) text) (end - (at + 1)) (omega (arith, m.within, long, inside)) (plain_left at end text inside m.plain)

pub nothing_left : (text : List ℕ) (end low seen : ℕ) → IsMarked text end low seen → IsMarked text 0 low seen
nothing_left text end low seen m = record { within = omega arith; few = m.few; there = m.there; marks = m.marks; plain = refl }

-- ---- the place of the first blank

no_blank : (b : ℕ) → is_low b ≡ false → is_blank b ≡ false
no_blank b h = grind (arith, nat_tests)

blank : (b : ℕ) → is_low b ≡ true → is_plain b ≡ true → is_blank b ≡ true
blank b low plain = grind (arith, nat_tests)

each_of : (p : ℕ → Bool) (xs : List ℕ) (k : ℕ) → k < length xs → list_all p xs ≡ true → p (get_or xs k 0) ≡ true
each_of p [] k lt h = absurd (omega (arith, lt))
each_of p (x ∷ xs) zero lt h = (and_parts (p x) (list_all p xs) h).0
each_of p (x ∷ xs) (suc k) lt h = each_of p xs k (omega (arith, lt)) (and_parts (p x) (list_all p xs) h).1

one_set : (b : Bool) (n m l : ℕ) → 0 < cond b 1 0 + 2 * n → (0 < n → m < l) → cond (not b) (1 + m) 0 < 1 + l
one_set true n m l h f = omega arith
one_set false n m l h f = let r = f (omega (arith, h)) in omega (arith, r)

some_set : (xs : List ℕ) → 0 < mask_l (map is_low xs) → prefix_len (λ b. not (is_low b)) xs < length xs
some_set [] h = absurd (omega (arith, h))
some_set (x ∷ xs) h =
    let r : prefix_len (λ b. not (is_low b)) (x ∷ xs) < 1 + length xs = one_set (is_low x) (mask_l (map is_low xs)) (prefix_len (λ b. not (is_low b)) xs) (length xs) h (some_set xs) in
    omega (arith, r)

module _ (text : List ℕ) (end low seen at : ℕ) (m : IsMarked text end low seen) (is : at ≡ count_trailing_zeros 64 low) where
  seen_long : length (take seen text) ≡ seen
  seen_long = length-take-le seen text m.there

  line_long : length (take end text) ≡ end
  line_long = length-take-le end text m.within

  -- bytes before the first low one
  before : (k : ℕ) → k < prefix_len (λ b. not (is_low b)) (take seen text) → k < seen → k < end → is_blank (get_or (take end text) k 0) ≡ false
  before k lt there inside =
      let low : is_low (get_or (take seen text) k 0) ≡ false = not-true (is_low (get_or (take seen text) k 0)) (prefix_len_passes (λ b. not (is_low b)) (take seen text) k 0 lt) in
      ap is_blank (get_or-take end text k 0 inside ∙ sym (get_or-take seen text k 0 there)) ∙ no_blank (get_or (take seen text) k 0) low

  first : 0 < low → at ≡ prefix_len (λ b. not (is_low b)) (take seen text)
  first some = is ∙ ap (count_trailing_zeros 64) m.marks ∙ trailing_mask_l is_low 64 (take seen text) (omega (arith, seen_long, m.few)) (omega (arith, m.marks, some))

  pub place_marked : (low ≡ 0 → end ≤ seen) → at < end → at ≡ position_or_len is_blank (take end text)
  place_marked told inside =
      let some : 0 < low = ⊎_elim
      (λ none. absurd (omega (arith, told none, m.few, is ∙ ap (count_trailing_zeros 64) none ∙ trailing_of_zero 64, inside)))
      (λ more. omega (arith, more))
      (cases_eq low 0) in
      let f = first some in
      let less : prefix_len (λ b. not (is_low b)) (take seen text) < length (take seen text) = some_set (take seen text) (omega (arith, m.marks, some)) in
      let there : at < seen = omega (arith, f, less, seen_long) in
      let byte : get_or (take end text) at 0 ≡ get_or (take seen text) at 0 = get_or-take end text at 0 inside ∙ sym (get_or-take seen text at 0 there) in
      let here : is_low (get_or (take seen text) at 0) ≡ true = ap (λ n. is_low (get_or (take seen text) n 0)) f ∙ not-false (is_low (get_or (take seen text) (prefix_len (λ b. not (is_low b)) (take seen text)) 0)) (prefix_len_stops (λ b. not (is_low b)) (take seen text) 0 less) in
      let plain : is_plain (get_or (take end text) at 0) ≡ true = each_of is_plain (take end text) at (omega (arith, line_long, inside)) m.plain in
      sym (position_or_len_is is_blank (take end text) at 0 (omega (arith, line_long, inside))
      (λ k lt. before k (omega (arith, f, lt)) (omega (arith, lt, there)) (omega (arith, lt, inside)))
      (λ lt. blank (get_or (take end text) at 0) (ap is_low byte ∙ here) plain))

  pub place_at_end : (low ≡ 0 → end ≤ seen) → end ≤ at → end ≡ position_or_len is_blank (take end text)
  place_at_end told le =
      let run : end ≤ prefix_len (λ b. not (is_low b)) (take seen text) = ⊎_elim
      (λ none. omega (arith, told none, seen_long, leading_from_mask_l is_low (take seen text) (sym m.marks ∙ none)))
      (λ some. omega (arith, le, first (omega (arith, some))))
      (cases_eq low 0) in
      let few : prefix_len (λ b. not (is_low b)) (take seen text) ≤ length (take seen text) = prefix_len-le-length (λ b. not (is_low b)) (take seen text) in
      sym (position_or_len_is is_blank (take end text) end 0 (omega (arith, line_long)) (λ k lt. before k (omega (arith, lt, run)) (omega (arith, lt, run, few, seen_long)) lt) (λ lt. absurd (omega (arith, lt, line_long))))
