-- Names and numbers as words of a line.
use Rattle.std.proofs.Common.{◌≡◌, ◌<◌, ◌≤◌, ◌+◌, ◌*◌, ◌-◌, ◌/◌, ◌%◌, ◌^◌, ℕ, List, [], ◌∷◌, ◌++◌, length, Bool, true, false, not, ◌&&◌, nat_lt, nat_le, Some, None, if◌then◌else◌, codes, refl, sym, ap, ◌∙◌, subst, arith, length-append}
use Rattle.std.specs.List.{list_all}
use Rattle.std.specs.Str.{bytes_eq}
use Rattle.std.specs.Char.{is_ascii_digit, is_ascii_alphabetic}
use Rattle.std.specs.Fmt as fmt
use Rattle.std.proofs.lemmas.Bool.{and_parts, both_ways}
use Rattle.std.proofs.lemmas.Bool.Decides.{nat_tests}
use Rattle.std.proofs.lemmas.Slice.Eq.{bytes_eq-Decides}
use Rattle.std.proofs.lemmas.Fmt.{decimal_by_steps, length-decimal-le}
use Rattle.std.proofs.lemmas.List.Sums.{fold-append}
use Rattle.std.proofs.lemmas.List.Folds.{list_all-append}
use Rattle.bottle_values.specs.ListLaws.{all_weaker}
use Rattle.text_lines.specs.Text.{is_name, is_name_byte, is_plain, is_keyword, name_of, number_of, decimal}
use Rattle.session_language.specs.Phrase.{is_read, operand_in, or_variable}
use Rattle.session_language.specs.Spelling.{ANumber, AVariable}

-- one or more bytes of a name
pub record IsWord (w : List ℕ) : Type 0 where
  pub some : 0 < length w
  pub bytes : list_all is_name_byte w ≡ true

-- numbers
digit_is : (k : ℕ) → k < 10 → is_ascii_digit (48 + k) ≡ true
digit_is k h = grind (arith, nat_tests)

record IsDecimal (n : ℕ) (ds : List ℕ) : Type 0 where
  some : 0 < length ds
  digits : list_all is_ascii_digit ds ≡ true
  stands_for : decimal ds ≡ n

one_digit : (n : ℕ) → n < 10 → IsDecimal n ((48 + n) ∷ [])
one_digit n h = record { some = omega arith; digits = ap (λ b. b && true) (digit_is n h); stands_for = omega arith }

one_more : (n : ℕ) (ds : List ℕ) → 10 ≤ n → IsDecimal (n / 10) ds → IsDecimal n (ds ++ (48 + n % 10) ∷ [])
one_more n ds h d = record {
  some = omega (arith, length-append ds ((48 + n % 10) ∷ []));
  digits = list_all-append is_ascii_digit ds ((48 + n % 10) ∷ []) ∙ ap (λ b. b && list_all is_ascii_digit ((48 + n % 10) ∷ [])) d.digits ∙ ap (λ b. b && true) (digit_is (n % 10) (omega arith));
  stands_for = fold-append (λ m b. 10 * m + (b - 48)) 0 ds ((48 + n % 10) ∷ []) ∙ ap (λ m. 10 * m + ((48 + n % 10) - 48)) d.stands_for ∙ (omega arith);
}

is_decimal : (n : ℕ) → n < 2 ^ 64 → IsDecimal n (fmt.decimal n)
is_decimal = decimal_by_steps IsDecimal one_digit one_more

digit_in_name : (b : ℕ) → is_ascii_digit b ≡ true → is_name_byte b ≡ true
digit_in_name b h = grind (arith, nat_tests)

pub number_is_word : (n : ℕ) → n < 2 ^ 63 → IsWord (fmt.decimal n)
number_is_word n h =
    let d = is_decimal n (omega arith) in
    record { some = d.some; bytes = all_weaker is_ascii_digit is_name_byte digit_in_name (fmt.decimal n) d.digits }

read_number : (n : ℕ) (w : List ℕ) → IsDecimal n w → length w ≤ 19 → n < 2 ^ 63 → number_of w ≡ Some n
read_number n w d short h =
    let some : nat_lt 0 (length w) ≡ true = let s = d.some in grind (arith, nat_tests) in
    let few : nat_le (length w) 19 ≡ true = grind (arith, nat_tests) in
    let low : nat_lt (decimal w) (2 ^ 63) ≡ true = let e = d.stands_for in grind (arith, nat_tests) in
    rw (some, few, d.digits, low) (ap Some d.stands_for)

pub number_again : (n : ℕ) → n < 2 ^ 63 → number_of (fmt.decimal n) ≡ Some n
number_again n h = read_number n (fmt.decimal n) (is_decimal n (omega arith)) (length-decimal-le 19 n (omega arith) (omega arith) (omega arith)) h

-- a word of digits is none of these letters
differ : (w k : List ℕ) → list_all is_ascii_digit w ≡ true → list_all is_ascii_digit k ≡ false → bytes_eq w k ≡ false
differ w k h f = by_test (bytes_eq w k) refl
  where
    by_test : (b : Bool) → bytes_eq w k ≡ b → b ≡ false
    by_test false e = refl
    by_test true e = absurd (both_ways (list_all is_ascii_digit k) f (subst (λ x. list_all is_ascii_digit x ≡ true) ((bytes_eq-Decides w k).0 e) h))

pub number_operand : (n : ℕ) → n < 2 ^ 63 → (is_read (fmt.decimal n) ≡ false) × (operand_in (fmt.decimal n) ≡ Some (ANumber n))
number_operand n h = (
  differ (fmt.decimal n) (codes "read") (is_decimal n (omega arith)).digits refl,
  ap (λ o. or_variable o (name_of (fmt.decimal n))) (number_again n h),
)

-- names
pub record HasNameBytes (w : List ℕ) : Type 0 where
  pub word : IsWord w
  pub short : length w ≤ 16
  pub no_keyword : is_keyword w ≡ false
  pub no_digits : list_all is_ascii_digit w ≡ false

no_digit : (b : ℕ) → is_ascii_alphabetic b ≡ true → is_ascii_digit b ≡ false
no_digit b h = grind (arith, nat_tests)

not_true : (b : Bool) → not b ≡ true → b ≡ false
not_true true h = sym h
not_true false h = refl

pub name_bytes : (w : List ℕ) → is_name w ≡ true → HasNameBytes w
name_bytes [] h = (cc)
name_bytes (b ∷ bs) h =
    let halves = and_parts _ _ h in
    let front = and_parts (is_ascii_alphabetic b) _ halves.0 in
    let back = and_parts (list_all is_name_byte (b ∷ bs)) _ halves.1 in
    record {
      word = record { some = omega arith; bytes = back.0 };
      short = let le = front.1 in grind (arith, nat_tests);
      no_keyword = not_true (is_keyword (b ∷ bs)) back.1;
      no_digits = ap (λ x. x && list_all is_ascii_digit bs) (no_digit b front.0);
    }

pub name_again : (w : List ℕ) → is_name w ≡ true → name_of w ≡ Some w
name_again w h = ap (λ b. if b then Some w else None) h

no_number : (w : List ℕ) → list_all is_ascii_digit w ≡ false → number_of w ≡ None
no_number w h = by_len (nat_lt 0 (length w) && nat_le (length w) 19)
  where
    by_len : (b : Bool) → (if b && (list_all is_ascii_digit w && nat_lt (decimal w) (2 ^ 63)) then Some (decimal w) else None) ≡ None
    by_len true = ap (λ x. if x && nat_lt (decimal w) (2 ^ 63) then Some (decimal w) else None) h
    by_len false = refl

-- the keywords are no names
not_keyword : (w : List ℕ) → is_keyword w ≡ false → bytes_eq w (codes "read") ≡ false
not_keyword w h = by_test (bytes_eq w (codes "read")) refl
  where
    by_test : (b : Bool) → bytes_eq w (codes "read") ≡ b → b ≡ false
    by_test false e = refl
    by_test true e = absurd (both_ways (is_keyword w) h (subst (λ x. is_keyword x ≡ true) (sym ((bytes_eq-Decides w (codes "read")).0 e)) refl))

pub name_operand : (w : List ℕ) → is_name w ≡ true → (is_read w ≡ false) × (operand_in w ≡ Some (AVariable w))
name_operand w h =
    let b = name_bytes w h in (
      not_keyword w b.no_keyword,
      ap (λ o. or_variable o (name_of w)) (no_number w b.no_digits) ∙ ap (or_variable None) (name_again w h),
    )

-- the bytes of words stand in a line, and none of them ends it
byte_is_plain : (b : ℕ) → is_name_byte b ≡ true → is_plain b ≡ true
byte_is_plain b h = grind (arith, nat_tests)

pub word_is_plain : (w : List ℕ) → IsWord w → list_all is_plain w ≡ true
word_is_plain w h = all_weaker is_name_byte is_plain byte_is_plain w h.bytes
