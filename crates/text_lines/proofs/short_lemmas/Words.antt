-- Two names are one exactly where their words are.
use Rattle.std.proofs.Common.{◌≡◌, ℕ, zero, suc, ◌+◌, ◌-◌, ◌<◌, ◌≤◌, List, [], ◌∷◌, ◌++◌, length, get_or, slice_index, take, drop, replicate, Bool, true, ◌&&◌, ◌==◌, refl, sym, ap, ◌∙◌, subst, arith, ⊎_elim}
use Rattle.std.specs.List.{list_all}
use Rattle.std.specs.Int.{w64, from_le_bytes, to_le_bytes, sum_through, byte_worth}
use Rattle.std.specs.Str.{bytes_eq}
use Rattle.std.proofs.lemmas.Bool.{and_parts, and_from, eqb-true, eq-eqb, cases_lt}
use Rattle.std.proofs.lemmas.Bool.Decides.{nat_tests, same_from_decides}
use Rattle.std.proofs.lemmas.List.{length-take, length-take-le, length-drop, get_or-take, get_or-drop, get_or_past, take-append-drop}
use Rattle.std.proofs.lemmas.Nat.{le_bytes_8}
use Rattle.std.proofs.lemmas.Slice.Eq.{bytes_eq-Decides}
use Rattle.text_lines.specs.short.Names.{most_bytes, is_short_byte}
use Rattle.text_lines.specs.short.refinement.Packing.{padded, IsPacked, first_eight, last_eight}

byte_some : (b : ℕ) → is_short_byte b ≡ true → 0 ≡ b → ⊥
byte_some b h e = absurd (omega (arith, positive))
  where
    positive : 0 < b
    positive = grind (arith, nat_tests)

-- zeros after lists that have none leave the lists apart
unpadded : (xs ys : List ℕ) (m n : ℕ) → list_all is_short_byte xs ≡ true → list_all is_short_byte ys ≡ true → xs ++ replicate m 0 ≡ ys ++ replicate n 0 → xs ≡ ys
unpadded [] [] m n hx hy e = refl
unpadded [] (y ∷ ys) zero n hx hy e = (cc)
unpadded [] (y ∷ ys) (suc m) n hx hy e =
    let same : 0 ≡ y = (cc) in
    absurd (byte_some y (and_parts (is_short_byte y) (list_all is_short_byte ys) hy).0 same)
unpadded (x ∷ xs) [] m zero hx hy e = (cc)
unpadded (x ∷ xs) [] m (suc n) hx hy e =
    let same : 0 ≡ x = (cc) in
    absurd (byte_some x (and_parts (is_short_byte x) (list_all is_short_byte xs) hx).0 same)
unpadded (x ∷ xs) (y ∷ ys) m n hx hy e =
    let heads : x ≡ y = (cc) in
    let tails : xs ++ replicate m 0 ≡ ys ++ replicate n 0 = (cc) in
    let rest : xs ≡ ys = unpadded xs ys m n (and_parts (is_short_byte x) (list_all is_short_byte xs) hx).1 (and_parts (is_short_byte y) (list_all is_short_byte ys) hy).1 tails in
    (cc)

abbrev AreBytes : List ℕ → Type 0
AreBytes xs = (i : ℕ) → get_or xs i 0 < 256

zeros : (n i : ℕ) → ◌≡◌ {A = ℕ} (get_or (replicate n 0) i 0) 0
zeros zero i = refl
zeros (suc n) zero = refl
zeros (suc n) (suc i) = zeros n i

byte_fits : (b : ℕ) → is_short_byte b ≡ true → b < 256
byte_fits b h = grind (arith, nat_tests)

padded_bytes : (name : List ℕ) (n : ℕ) → list_all is_short_byte name ≡ true → AreBytes (name ++ replicate n 0)
padded_bytes [] n h i = let z = zeros n i in omega arith
padded_bytes (b ∷ bs) n h zero = byte_fits b (and_parts (is_short_byte b) (list_all is_short_byte bs) h).0
padded_bytes (b ∷ bs) n h (suc i) = padded_bytes bs n (and_parts (is_short_byte b) (list_all is_short_byte bs) h).1 i

packed_bytes : (bytes : List ℕ) (count : ℕ) → IsPacked bytes count → AreBytes bytes
packed_bytes bytes count h = subst AreBytes h.filled (padded_bytes (take count bytes) (most_bytes - length (take count bytes)) h.short)

taken_bytes : (xs : List ℕ) (n : ℕ) → AreBytes xs → AreBytes (take n xs)
taken_bytes xs n h i = ⊎_elim inside outside (cases_lt i n)
  where
    inside : i < n → get_or (take n xs) i 0 < 256
    inside lt = rw (get_or-take n xs i 0 lt) (h i)

    outside : n ≤ i → get_or (take n xs) i 0 < 256
    outside ge = let past = get_or_past (take n xs) i 0 (omega (arith, length-take n xs)) in omega arith

dropped_bytes : (xs : List ℕ) (n : ℕ) → AreBytes xs → AreBytes (drop n xs)
dropped_bytes xs n h i = rw (get_or-drop n xs i 0) (h (n + i))

sums : (f g : ℕ → ℕ) (k : ℕ) → ((i : ℕ) → i ≤ k → f i ≡ g i) → sum_through f k ≡ sum_through g k
sums f g zero same = same 0 (omega arith)
sums f g (suc k) same =
    let before : sum_through f k ≡ sum_through g k = sums f g k (λ i le. same i (omega arith)) in
    let last : f (suc k) ≡ g (suc k) = same (suc k) (omega arith) in
    (cc)

-- a word reads eight bytes
read_eight : (xs ys : List ℕ) → ((i : ℕ) → i < 8 → get_or xs i 0 ≡ get_or ys i 0) → from_le_bytes w64 xs ≡ from_le_bytes w64 ys
read_eight xs ys same = sums (λ i. byte_worth i (slice_index xs i)) (λ i. byte_worth i (slice_index ys i)) 7 (λ i le. ap (byte_worth i) (same i (omega arith)))

same_half : (xs ys : List ℕ) → length xs ≡ 8 → length ys ≡ 8 → AreBytes xs → AreBytes ys → from_le_bytes w64 xs ≡ from_le_bytes w64 ys → xs ≡ ys
same_half xs ys lx ly fx fy e =
    let back : to_le_bytes w64 (from_le_bytes w64 xs) ≡ xs = le_bytes_8 xs (from_le_bytes w64 xs) lx fx refl in
    let there : to_le_bytes w64 (from_le_bytes w64 ys) ≡ ys = le_bytes_8 ys (from_le_bytes w64 ys) ly fy refl in
    sym back ∙ ap (to_le_bytes w64) e ∙ there

front_read : (xs : List ℕ) → first_eight xs ≡ from_le_bytes w64 (take 8 xs)
unfolding first_eight
front_read xs = read_eight xs (take 8 xs) (λ i lt. sym (get_or-take 8 xs i 0 lt))

back_read : (xs : List ℕ) → last_eight xs ≡ from_le_bytes w64 (drop 8 xs)
unfolding last_eight
back_read xs = refl

-- sixteen bytes, from their words
same_bytes : (xs ys : List ℕ) → length xs ≡ 16 → length ys ≡ 16 → AreBytes xs → AreBytes ys → first_eight xs ≡ first_eight ys → last_eight xs ≡ last_eight ys → xs ≡ ys
same_bytes xs ys lx ly fx fy low high =
    let fronts : take 8 xs ≡ take 8 ys = same_half (take 8 xs) (take 8 ys) (length-take-le 8 xs (omega arith)) (length-take-le 8 ys (omega arith)) (taken_bytes xs 8 fx) (taken_bytes ys 8 fy) (sym (front_read xs) ∙ low ∙ front_read ys) in
    let backs : drop 8 xs ≡ drop 8 ys = same_half (drop 8 xs) (drop 8 ys) (omega (arith, length-drop 8 xs)) (omega (arith, length-drop 8 ys)) (dropped_bytes xs 8 fx) (dropped_bytes ys 8 fy) (sym (back_read xs) ∙ high ∙ back_read ys) in
    sym (take-append-drop 8 xs) ∙ ap (λ front. front ++ drop 8 xs) fronts ∙ ap (λ back. take 8 ys ++ back) backs ∙ take-append-drop 8 ys

same_names : (us vs : List ℕ) (m n : ℕ) → IsPacked us m → IsPacked vs n → us ≡ vs → take m us ≡ take n vs
same_names us vs m n ha hb e =
    unpadded (take m us) (take n vs) (most_bytes - length (take m us)) (most_bytes - length (take n vs)) ha.short hb.short (ha.filled ∙ e ∙ sym hb.filled)

same_filled : (us vs : List ℕ) (m n : ℕ) → IsPacked us m → IsPacked vs n → take m us ≡ take n vs → us ≡ vs
same_filled us vs m n ha hb e = sym ha.filled ∙ ap padded e ∙ hb.filled

-- two names are one exactly where both of their words are
pub told : (us vs : List ℕ) (m n a b c d : ℕ) → IsPacked us m → IsPacked vs n → a ≡ first_eight us → b ≡ first_eight vs → c ≡ last_eight us → d ≡ last_eight vs → (a == b && c == d) ≡ bytes_eq (take m us) (take n vs)
told us vs m n a b c d ha hb ea eb ec ed =
    same_from_decides {P = take m us ≡ take n vs} (a == b && c == d) (bytes_eq (take m us) (take n vs)) (there, back) (bytes_eq-Decides (take m us) (take n vs))
  where
    there : (a == b && c == d) ≡ true → take m us ≡ take n vs
    there h =
        let low : a ≡ b = eqb-true a b (and_parts (a == b) (c == d) h).0 in
        let high : c ≡ d = eqb-true c d (and_parts (a == b) (c == d) h).1 in
        same_names us vs m n ha hb (same_bytes us vs ha.whole hb.whole (packed_bytes us m ha) (packed_bytes vs n hb) (sym ea ∙ low ∙ eb) (sym ec ∙ high ∙ ed))

    back : take m us ≡ take n vs → (a == b && c == d) ≡ true
    back e =
        let same : us ≡ vs = same_filled us vs m n ha hb e in
        and_from (a == b) (c == d) (eq-eqb a b (ea ∙ ap first_eight same ∙ sym eb)) (eq-eqb c d (ec ∙ ap last_eight same ∙ sym ed))

-- eight bytes that are read one by one
pub low_is : (bytes : List ℕ) → from_le_bytes w64 (get_or bytes 0 0 ∷ get_or bytes 1 0 ∷ get_or bytes 2 0 ∷ get_or bytes 3 0 ∷ get_or bytes 4 0 ∷ get_or bytes 5 0 ∷ get_or bytes 6 0 ∷ get_or bytes 7 0 ∷ []) ≡ first_eight bytes
unfolding first_eight
low_is bytes = refl

pub high_is : (bytes : List ℕ) → from_le_bytes w64 (get_or bytes 8 0 ∷ get_or bytes 9 0 ∷ get_or bytes 10 0 ∷ get_or bytes 11 0 ∷ get_or bytes 12 0 ∷ get_or bytes 13 0 ∷ get_or bytes 14 0 ∷ get_or bytes 15 0 ∷ []) ≡ last_eight bytes
unfolding last_eight
high_is bytes = sym (simp get_or-drop)
