-- Words of digits that were read sixteen at a time.
use Rattle.std.proofs.Common.{◌≡◌, ℕ, zero, suc, ◌+◌, ◌-◌, ◌*◌, ◌<◌, ◌≤◌, List, [], ◌∷◌, ◌++◌, length, drop, take, slice_index, Bool, true, false, ◌&&◌, Option, Some, None, Result, Ok, Err, refl, sym, ap, subst, ◌∙◌, arith, inl, inr, ◌⊎◌, ⊎_elim}
use Rattle.std.specs.List.{list_all}
use Rattle.std.specs.Result.{result_ok}
use Rattle.std.specs.Simd.Lanes.{chunk}
use Rattle.std.proofs.lemmas.Bool.{and_parts, cases_lt}
use Rattle.std.proofs.lemmas.Simd.{chunk-drop}
use Rattle.std.proofs.lemmas.List.{take-append-drop}
use Rattle.hex.specs.Hex.{decode_of, decode_pairs, hex_digit_value, is_hex_digit, pair_value, digit_or_error, value_at, ◌>>=◌}
use Rattle.hex.specs.declared.error.FromHexError.{FromHexError}
use Rattle.hex.proofs.HexLemmas.{decode_of-even}
use Rattle.journal_texts.specs.wording.Digits.{bytes_in}
use Rattle.journal_texts.specs.wording.refinement.Blocks.{IsPair, IsWritten}

-- ---- pairs of digits are bytes

two_read : (i a c h l : ℕ) → hex_digit_value a ≡ Some h → hex_digit_value c ≡ Some l → pair_value a c i ≡ Ok (h * 16 + l)
two_read i a c h l ha hl =
    let first : value_at a i ≡ Ok h = ap (digit_or_error a i) ha in
    let second : value_at c (i + 1) ≡ Ok l = ap (digit_or_error c (i + 1)) hl in
    rw (first, second) refl

one_more : (i a c v : ℕ) (rest bs : List ℕ) → pair_value a c i ≡ Ok v → decode_pairs (i + 2) rest ≡ Ok bs → decode_pairs i (a ∷ c ∷ rest) ≡ Ok (v ∷ bs)
unfolding decode_pairs
one_more i a c v rest bs first later = rw (first, later) refl

-- the pairs after the first
later_pair : (a c : ℕ) (rest : List ℕ) (k b : ℕ) → IsPair (a ∷ c ∷ rest) (suc k) b → IsPair rest k b
later_pair a c rest k b p =
    let even : 2 * suc k ≡ suc (suc (2 * k)) = omega arith in
    let odd : 2 * suc k + 1 ≡ suc (suc (2 * k + 1)) = omega arith in
    record {
      upper = p.upper;
      lower = p.lower;
      first = subst (λ n. hex_digit_value (slice_index (a ∷ c ∷ rest) n) ≡ Some p.upper) even p.first;
      second = subst (λ n. hex_digit_value (slice_index (a ∷ c ∷ rest) n) ≡ Some p.lower) odd p.second;
      byte = p.byte;
    }

all_read : (i : ℕ) (s bytes : List ℕ) → length s ≡ 2 * length bytes → ((k : ℕ) → k < length bytes → IsPair s k (slice_index bytes k)) → decode_pairs i s ≡ Ok bytes
unfolding decode_pairs
all_read i [] [] size h = refl
all_read i [] (b ∷ bs) size h = absurd (omega (arith, size))
all_read i (a ∷ []) [] size h = absurd (omega (arith, size))
all_read i (a ∷ []) (b ∷ bs) size h = absurd (omega (arith, size))
all_read i (a ∷ c ∷ rest) [] size h = absurd (omega (arith, size))
all_read i (a ∷ c ∷ rest) (b ∷ bs) size h =
    let p = h 0 (omega arith) in
    let first : pair_value a c i ≡ Ok b = two_read i a c p.upper p.lower p.first p.second ∙ ap Ok (sym p.byte) in
    one_more i a c b rest bs first (all_read (i + 2) rest bs (omega (arith, size)) (λ k lt. later_pair a c rest k (slice_index bs k) (h (suc k) (omega (arith, lt)))))

-- a word of pairs has these bytes
pub bytes_of_pairs : (word bytes : List ℕ) → length word ≡ 2 * length bytes → ((k : ℕ) → k < length bytes → IsPair word k (slice_index bytes k)) → bytes_in word ≡ Some bytes
bytes_of_pairs word bytes size h = ap result_ok (decode_of-even word (omega (arith, size)) ∙ all_read 0 word bytes size h)

-- ---- a word with a block that isn't all digits isn't all digits

and_false : (a b : Bool) → b ≡ false → (a && b) ≡ false
and_false true b h = h
and_false false b h = refl

false_and : (a b : Bool) → a ≡ false → (a && b) ≡ false
false_and a b h = ap (λ x. x && b) h

all_append : (p : ℕ → Bool) (xs ys : List ℕ) → list_all p (xs ++ ys) ≡ (list_all p xs && list_all p ys)
all_append p [] ys = refl
all_append p (x ∷ xs) ys = by (p x) (all_append p xs ys)
  where
    by : (b : Bool) → list_all p (xs ++ ys) ≡ (list_all p xs && list_all p ys) → (b && list_all p (xs ++ ys)) ≡ ((b && list_all p xs) && list_all p ys)
    by true rest = rest
    by false rest = refl

pub not_all : (p : ℕ → Bool) (xs : List ℕ) (at n : ℕ) → list_all p (chunk at n xs) ≡ false → list_all p xs ≡ false
not_all p xs at n h =
    let rest : list_all p (drop at xs) ≡ false =
    ap (list_all p) (chunk-drop at n xs) ∙ all_append p (chunk at n xs) (drop (at + n) xs) ∙ false_and (list_all p (chunk at n xs)) (list_all p (drop (at + n) xs)) h in
    ap (list_all p) (sym (take-append-drop at xs)) ∙ all_append p (take at xs) (drop at xs) ∙ and_false (list_all p (take at xs)) (list_all p (drop at xs)) rest

-- ---- one block more

-- the first bytes are those of the word
abbrev pub AreFirst : List ℕ → List ℕ → ℕ → Type 0
AreFirst word bytes n = (k : ℕ) → k < n → IsPair word k (slice_index bytes k)

pub first_more : (word old new : List ℕ) (half n m : ℕ) → half ≤ n → m ≤ half + 8 → IsWritten word half old new true → AreFirst word old n → AreFirst word new m
first_more word old new half n m le within w first k lt = ⊎_elim
    (λ before. subst (IsPair word k) (sym (w.elsewhere k (inl before))) (first k (omega (arith, before, le))))
    (λ ge.
    let j : ℕ = k - half in
    let at : half + j ≡ k = omega (arith, ge) in
    subst (λ i. IsPair word i (slice_index new i)) at (w.here refl j (omega (arith, lt, within, ge))))
    (cases_lt k half)

-- one of two that aren't both
pub and_cases : (a b : Bool) → (a && b) ≡ false → (a ≡ false) ⊎ (b ≡ false)
and_cases true b h = inr h
and_cases false b h = inl refl

-- the step of a block in the loop
pub not_all_more : (p : ℕ → Bool) (word : List ℕ) (at : ℕ) (all more : Bool) → (all ≡ false → list_all p word ≡ false) → more ≡ list_all p (chunk at 16 word) → (all && more) ≡ false → list_all p word ≡ false
not_all_more p word at all more bad is h = ⊎_elim bad (λ e. not_all p word at 16 (sym is ∙ e)) (and_cases all more h)

pub good_more : (word old new : List ℕ) (half n m : ℕ) (all more : Bool) → half ≤ n → m ≤ half + 8 → IsWritten word half old new more → (all ≡ true → AreFirst word old n) → (all && more) ≡ true → AreFirst word new m
good_more word old new half n m all more le within w first h =
    let both = and_parts all more h in
    first_more word old new half n m le within (subst (IsWritten word half old new) both.1 w) (first both.0)
