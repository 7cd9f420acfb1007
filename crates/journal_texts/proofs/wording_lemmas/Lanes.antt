-- Sixteen bytes, lane by lane: each lane is held to a test of the 256 bytes.
use Rattle.std.proofs.Common.{◌≡◌, ℕ, zero, suc, ◌+◌, ◌*◌, ◌/◌, ◌%◌, ◌^◌, ◌<◌, ◌≤◌, Bool, true, false, cond, not, eqb, ◌&&◌, List, [], ◌∷◌, ◌++◌, map, length, get_or, replicate, slice_index, Option, Some, None, is_some, refl, sym, ap, ap₂, subst, ◌∙◌, arith, ⊎_elim, w8, Fits}
use Rattle.std.specs.List.{list_all}
use Rattle.std.specs.Simd.Lanes.{zip2, sel_l, mask_l, top, Each1, chunk, put_chunk}
use Rattle.std.proofs.lemmas.Bool.{and_parts, cases_lt, cases_eq, eq-eqb, ne_eqb, eqb-true}
use Rattle.std.proofs.lemmas.List.{get_or_append_left, length-map}
use Rattle.std.proofs.lemmas.Simd.{zip2_splat, map-map, mask_l-mod, length-chunk, get_or-chunk, length-put_chunk, get_or-put_chunk_below, get_or-put_chunk_at, get_or-put_chunk_above, Each1-get_or}
use Rattle.hex.specs.Hex.{hex_digit_value, is_hex_digit}
use Rattle.journal_texts.specs.wording.refinement.Blocks.{AreWorth, Joins, IsPair, IsWritten}

-- ---- the first n numbers pass a test

abbrev pub upto : (ℕ → Bool) → ℕ → Bool
upto p zero = true
upto p (suc n) = p n && upto p n

pub upto_sound : (p : ℕ → Bool) (n k : ℕ) → upto p n ≡ true → k < n → p k ≡ true
upto_sound p zero k h lt = absurd (omega (arith, lt))
upto_sound p (suc n) k h lt =
    let parts = and_parts (p n) (upto p n) h in
    ⊎_elim (λ below. upto_sound p n k parts.1 below) (λ ge. let same : n ≡ k = omega (arith, lt, ge) in ap p (sym same) ∙ parts.0) (cases_lt k n)

-- ---- what a digit is worth

-- a choice of two that were computed lane by lane
sel_of_maps : (m : ℕ → Bool) (g h : ℕ → ℕ) (v : List ℕ) → sel_l (map m v) (map g v) (map h v) ≡ map (λ x. cond (m x) (g x) (h x)) v
sel_of_maps m g h [] = refl
sel_of_maps m g h (x ∷ xs) = ap (λ l. cond (m x) (g x) (h x) ∷ l) (sel_of_maps m g h xs)

abbrev pub agrees : Option ℕ → ℕ → Bool
agrees None y = true
agrees (Some v) y = eqb v y

agreed : (o : Option ℕ) (y : ℕ) → agrees o y ≡ true → is_some o ≡ true → o ≡ Some y
agreed None y h some = cc some
agreed (Some v) y h some = ap Some (eqb-true v y h)

nth_map : (f : ℕ → ℕ) (v : List ℕ) (i : ℕ) → i < length v → get_or (map f v) i 0 ≡ f (get_or v i 0)
nth_map f [] i lt = absurd (omega (arith, lt))
nth_map f (x ∷ v) zero lt = refl
nth_map f (x ∷ v) (suc i) lt = nth_map f v i (omega (arith, lt))

-- lane by lane, by whichever operators
module _ (sub lt add bor : ℕ → ℕ → ℕ) where
  abbrev pub worth : ℕ → ℕ
  worth x = cond (top 7 (lt (sub x 48) 10)) (sub x 48) (add (sub (bor x 32) 97) 10)

  splat : (f : ℕ → ℕ → ℕ) (g : ℕ → ℕ) (v l : List ℕ) (y : ℕ) → length v ≡ 16 → l ≡ map g v → zip2 f l (replicate 16 y) ≡ map (λ x. f (g x) y) v
  splat f g v l y long is = ap (λ k. zip2 f k (replicate 16 y)) is ∙ zip2_splat f (map g v) 16 y (length-map v g ∙ long) ∙ map-map (λ x. f x y) g v

  abbrev pub values_by : List ℕ → List ℕ
  values_by v =
      sel_l (map (top 7) (zip2 lt (zip2 sub v (replicate 16 48)) (replicate 16 10))) (zip2 sub v (replicate 16 48)) (zip2 add (zip2 sub (zip2 bor v (replicate 16 32)) (replicate 16 97)) (replicate 16 10))

  values_are : (v : List ℕ) → length v ≡ 16 → values_by v ≡ map worth v
  values_are v long =
      let digit : zip2 sub v (replicate 16 48) ≡ map (λ x. sub x 48) v = zip2_splat sub v 16 48 long in
      let lower : zip2 bor v (replicate 16 32) ≡ map (λ x. bor x 32) v = zip2_splat bor v 16 32 long in
      let letter = splat add (λ x. sub (bor x 32) 97) v _ 10 long (splat sub (λ x. bor x 32) v _ 97 long lower) in
      let few : map (top 7) (zip2 lt (zip2 sub v (replicate 16 48)) (replicate 16 10)) ≡ map (λ x. top 7 (lt (sub x 48) 10)) v =
      ap (map (top 7)) (splat lt (λ x. sub x 48) v _ 10 long digit) ∙ map-map (top 7) (λ x. lt (sub x 48) 10) v in
      ap (λ m. sel_l m (zip2 sub v (replicate 16 48)) (zip2 add (zip2 sub (zip2 bor v (replicate 16 32)) (replicate 16 97)) (replicate 16 10))) few
      ∙ ap₂ (sel_l (map (λ x. top 7 (lt (sub x 48) 10)) v)) digit letter
      ∙ sel_of_maps (λ x. top 7 (lt (sub x 48) 10)) (λ x. sub x 48) (λ x. add (sub (bor x 32) 97) 10) v

  pub are_worth : (v : List ℕ) → length v ≡ 16 → Each1 (Fits w8) v → upto (λ x. agrees (hex_digit_value x) (worth x)) 256 ≡ true → AreWorth v (values_by v)
  are_worth v long fits all = subst (AreWorth v) (sym (values_are v long)) (record {
    size = length-map v worth ∙ long;
    each = λ i within digit.
        let inside : i < length v = omega (arith, within, long) in
        agreed (hex_digit_value (slice_index v i)) (slice_index (map worth v) i)
        (ap (agrees (hex_digit_value (slice_index v i))) (nth_map worth v i inside) ∙ upto_sound (λ x. agrees (hex_digit_value x) (worth x)) 256 (slice_index v i) all (Each1-get_or (Fits w8) v i 0 inside fits).fits)
        digit;
  })

  -- ---- whether all are digits

  module _ (bor' : ℕ → ℕ → ℕ) where
    abbrev pub is_one : ℕ → Bool
    is_one x = top 7 (bor' (lt (sub x 48) 10) (lt (sub (bor x 32) 97) 6))

    abbrev pub marks_by : List ℕ → List Bool
    marks_by v = map (top 7) (zip2 bor' (zip2 lt (zip2 sub v (replicate 16 48)) (replicate 16 10)) (zip2 lt (zip2 sub (zip2 bor v (replicate 16 32)) (replicate 16 97)) (replicate 16 6)))

    both : (f g : ℕ → ℕ) (v : List ℕ) → zip2 bor' (map f v) (map g v) ≡ map (λ x. bor' (f x) (g x)) v
    both f g [] = refl
    both f g (x ∷ xs) = ap (λ l. bor' (f x) (g x) ∷ l) (both f g xs)

    marks_are : (v : List ℕ) → length v ≡ 16 → marks_by v ≡ map is_one v
    marks_are v long =
        let digit = splat lt (λ x. sub x 48) v _ 10 long (zip2_splat sub v 16 48 long) in
        let letter = splat lt (λ x. sub (bor x 32) 97) v _ 6 long (splat sub (λ x. bor x 32) v _ 97 long (zip2_splat bor v 16 32 long)) in
        ap (map (top 7)) (ap₂ (zip2 bor') digit letter ∙ both (λ x. lt (sub x 48) 10) (λ x. lt (sub (bor x 32) 97) 6) v) ∙ map-map (top 7) (λ x. bor' (lt (sub x 48) 10) (lt (sub (bor x 32) 97) 6)) v

-- ---- a mask that is full

abbrev pub full : ℕ → ℕ
full zero = 0
full (suc n) = 1 + 2 * full n

odd_same : (m f : ℕ) → eqb (1 + 2 * m) (1 + 2 * f) ≡ eqb m f
odd_same m f = ⊎_elim
    (λ e. eq-eqb (1 + 2 * m) (1 + 2 * f) (omega (arith, e)) ∙ sym (eq-eqb m f e))
    (λ ne. ne_eqb (1 + 2 * m) (1 + 2 * f) (λ e. ne (omega (arith, e))) ∙ sym (ne_eqb m f ne))
    (cases_eq m f)

mask_all : (p : ℕ → Bool) (v : List ℕ) → eqb (mask_l (map p v)) (full (length v)) ≡ list_all p v
mask_all p [] = refl
mask_all p (x ∷ xs) = by (p x) (mask_all p xs)
  where
    by : (b : Bool) → eqb (mask_l (map p xs)) (full (length xs)) ≡ list_all p xs → eqb (cond b 1 0 + 2 * mask_l (map p xs)) (1 + 2 * full (length xs)) ≡ (b && list_all p xs)
    by true rest = odd_same (mask_l (map p xs)) (full (length xs)) ∙ rest
    by false rest = ne_eqb (0 + 2 * mask_l (map p xs)) (1 + 2 * full (length xs)) (λ e. omega (arith, e))

abbrev pub same : Bool → Bool → Bool
same true b = b
same false b = not b

same_is : (a b : Bool) → same a b ≡ true → a ≡ b
same_is true b h = sym h
same_is false true h = cc h
same_is false false h = refl

all_same : (p q : ℕ → Bool) (v : List ℕ) → Each1 (Fits w8) v → upto (λ x. same (p x) (q x)) 256 ≡ true → list_all p v ≡ list_all q v
all_same p q [] fits all = refl
all_same p q (x ∷ xs) fits all = ap₂ (λ a b. a && b) (same_is (p x) (q x) (upto_sound (λ y. same (p y) (q y)) 256 x all fits.0.fits)) (all_same p q xs fits.1 all)

pub are_digits : (sub lt add bor bor' : ℕ → ℕ → ℕ) (v : List ℕ) → length v ≡ 16 → Each1 (Fits w8) v → upto (λ x. same (is_one sub lt add bor bor' x) (is_hex_digit x)) 256 ≡ true → eqb (mask_l (marks_by sub lt add bor bor' v) % 2 ^ 64) 65535 ≡ list_all is_hex_digit v
are_digits sub lt add bor bor' v long fits all =
    let p = is_one sub lt add bor bor' in
    let short : length (map p v) ≤ 64 = omega (arith, length-map v p, long) in
    ap (λ l. eqb (mask_l l % 2 ^ 64) 65535) (marks_are sub lt add bor bor' v long)
    ∙ ap (λ n. eqb n 65535) (mask_l-mod (map p v) 64 short)
    ∙ ap (λ n. eqb (mask_l (map p v)) (full n)) (sym long)
    ∙ mask_all p v
    ∙ all_same p is_hex_digit v fits all

-- ---- halves that are joined

exact : (h l : ℕ) → h < 16 → l < 16 → (h * 16 % 256 + l) % 256 ≡ h * 16 + l
exact h l a b = omega (arith, a, b)

by_lane : (v : List ℕ) (i k : ℕ) → length v ≡ 16 → i < 16 → k < 16 → slice_index v i < 16 → slice_index v k < 16 → (get_or (v ++ v) i 0 * 16 % 256 + get_or (v ++ v) k 0) % 256 ≡ slice_index v i * 16 + slice_index v k
by_lane v i k long li lk hi hk =
    ap₂ (λ (x y : ℕ). (x * 16 % 256 + y) % 256) (get_or_append_left v v 0 i (omega (arith, li, long))) (get_or_append_left v v 0 k (omega (arith, lk, long)))
    ∙ exact (slice_index v i) (slice_index v k) hi hk

abbrev pub lane : List ℕ → ℕ → ℕ → ℕ
lane v i k = (get_or (v ++ v) i 0 * 16 % 256 + get_or (v ++ v) k 0) % 256

abbrev pub lanes : List ℕ → List ℕ
lanes v = lane v 0 1 ∷ lane v 2 3 ∷ lane v 4 5 ∷ lane v 6 7 ∷ lane v 8 9 ∷ lane v 10 11 ∷ lane v 12 13 ∷ lane v 14 15 ∷ []

pub joins : (v : List ℕ) → length v ≡ 16 → Joins v (lanes v)
joins v long = record { size = refl; each = each }
  where
    each : (j : ℕ) → j < 8 → slice_index v (2 * j) < 16 → slice_index v (2 * j + 1) < 16 → slice_index (lanes v) j ≡ slice_index v (2 * j) * 16 + slice_index v (2 * j + 1)
    each zero lt h l = by_lane v 0 1 long (omega arith) (omega arith) h l
    each (suc zero) lt h l = by_lane v 2 3 long (omega arith) (omega arith) h l
    each (suc (suc zero)) lt h l = by_lane v 4 5 long (omega arith) (omega arith) h l
    each (suc (suc (suc zero))) lt h l = by_lane v 6 7 long (omega arith) (omega arith) h l
    each (suc (suc (suc (suc zero)))) lt h l = by_lane v 8 9 long (omega arith) (omega arith) h l
    each (suc (suc (suc (suc (suc zero))))) lt h l = by_lane v 10 11 long (omega arith) (omega arith) h l
    each (suc (suc (suc (suc (suc (suc zero)))))) lt h l = by_lane v 12 13 long (omega arith) (omega arith) h l
    each (suc (suc (suc (suc (suc (suc (suc zero))))))) lt h l = by_lane v 14 15 long (omega arith) (omega arith) h l
    each (suc (suc (suc (suc (suc (suc (suc (suc j)))))))) lt h l = absurd (omega (arith, lt))

-- ---- eight bytes that are written

small : (c v : ℕ) → hex_digit_value c ≡ Some v → v < 16
small c v h = grind (arith)

all_at : (p : ℕ → Bool) (xs : List ℕ) (i : ℕ) → list_all p xs ≡ true → i < length xs → p (slice_index xs i) ≡ true
all_at p [] i h lt = absurd (omega (arith, lt))
all_at p (x ∷ xs) zero h lt = (and_parts (p x) (list_all p xs) h).0
all_at p (x ∷ xs) (suc i) h lt = all_at p xs i (and_parts (p x) (list_all p xs) h).1 (omega (arith, lt))

module _ (word bytes values joined : List ℕ) (at : ℕ) (good : Bool) (within : at + 16 ≤ length word) (even : at % 2 ≡ 0) (twice : length word ≡ 2 * length bytes) (worth_so : AreWorth (chunk at 16 word) values) (is : good ≡ list_all is_hex_digit (chunk at 16 word)) (joins_so : Joins values joined) where
  digit_at : (i : ℕ) → i < 16 → slice_index (chunk at 16 word) i ≡ slice_index word (at + i)
  digit_at i lt = get_or-chunk at 16 word i 0 lt

  value_at_place : good ≡ true → (i : ℕ) → i < 16 → hex_digit_value (slice_index word (at + i)) ≡ Some (slice_index values i)
  value_at_place g i lt =
      let long : length (chunk at 16 word) ≡ 16 = length-chunk at 16 word within in
      subst (λ c. hex_digit_value c ≡ Some (slice_index values i)) (digit_at i lt) (worth_so.each i lt (all_at is_hex_digit (chunk at 16 word) i (sym is ∙ g) (omega (arith, lt, long))))

  half : ℕ
  half = at / 2

  pair_here : good ≡ true → (j : ℕ) → j < 8 → IsPair word (at / 2 + j) (slice_index (put_chunk (at / 2) bytes joined) (at / 2 + j))
  pair_here g j lt =
      let first = value_at_place g (2 * j) (omega (arith, lt)) in
      let second = value_at_place g (2 * j + 1) (omega (arith, lt)) in
      let upper : at + 2 * j ≡ 2 * (at / 2 + j) = omega (arith, even) in
      let lower : at + (2 * j + 1) ≡ 2 * (at / 2 + j) + 1 = omega (arith, even) in
      record {
        upper = slice_index values (2 * j);
        lower = slice_index values (2 * j + 1);
        first = subst (λ n. hex_digit_value (slice_index word n) ≡ Some (slice_index values (2 * j))) upper first;
        second = subst (λ n. hex_digit_value (slice_index word n) ≡ Some (slice_index values (2 * j + 1))) lower second;
        byte = get_or-put_chunk_at (at / 2) bytes joined j 0 (omega (arith, lt, joins_so.size)) (omega (arith, joins_so.size, within, twice, even))
            ∙ joins_so.each j lt (small (slice_index word (at + 2 * j)) (slice_index values (2 * j)) first) (small (slice_index word (at + (2 * j + 1))) (slice_index values (2 * j + 1)) second);
      }

  pub written : IsWritten word (at / 2) bytes (put_chunk (at / 2) bytes joined) good
  written = record {
    size = length-put_chunk (at / 2) bytes joined;
    here = pair_here;
    elsewhere = λ k. ⊎_elim
        (λ before. get_or-put_chunk_below (at / 2) bytes joined k 0 before)
        (λ after. get_or-put_chunk_above (at / 2) bytes joined k 0 (omega (arith, after, joins_so.size)));
  }
