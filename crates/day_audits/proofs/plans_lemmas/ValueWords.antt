-- The word of a value is read as that value.
use Rattle.std.proofs.Common.{◌≡◌, ℕ, suc, ◌+◌, ◌/◌, ◌%◌, ◌^◌, ◌<◌, ◌≤◌, ◌⊎◌, ◌&&◌, List, [], ◌∷◌, ◌++◌, length, Bool, true, false, nat_lt, Some, None, is_some, option_map, if◌then◌else◌, codes, refl, sym, ap, ap₂, ◌∙◌, arith, lit<, lit≤, ⊎_elim}
use Rattle.std.specs.Prelude.{ℤ, pos, negsuc, neg_ℤ, ◌==◌}
use Rattle.std.specs.List.{list_all}
use Rattle.std.specs.Str.{bytes_eq}
use Rattle.std.specs.Fmt.{decimal, signed_decimal}
use Rattle.std.proofs.lemmas.Bool.{and_parts, cases_lt}
use Rattle.std.proofs.lemmas.Bool.Decides.{nat_tests}
use Rattle.std.proofs.lemmas.Fmt.{decimal_digit, decimal_step}
use Rattle.std.proofs.lemmas.Slice.Eq.{bytes_eq-Decides}
use Rattle.bottle_values.specs.declared.Value.{Value}
use Rattle.bottle_values.specs.declared.Value.TheVariants.{Number, Text}
use Rattle.bottle_values.specs.Operations.{is_value}
use Rattle.bottle_values.specs.Printed.{value_text}
use Rattle.bottle_values.specs.Versions.{admits}
use Rattle.bottle_values.specs.declared.version.Version.{Version}
use Rattle.bottle_values.specs.declared.version.Version.TheVariants.{One, Two}
use Rattle.office_map.specs.PlanText.{negative_of, integer_of, text_of, number_or_text, value_under}
use Rattle.office_map.specs.PlanWordLaws.{begins_text, number_is_no_text, text_again}
use Rattle.text_lines.specs.Text.{number_of, is_name_byte}
use Rattle.journal_texts.specs.wording.Words.{is_visible, is_word}
use Rattle.journal_texts.proofs.wording_lemmas.NamesAndNumbers.{number_word}
use Rattle.session_language.proofs.canonical.Lexemes.{IsWord, number_is_word, number_again}
use Rattle.day_audits.proofs.plans_lemmas.PlanLines.{IsCut, cut_word, cut_text}

-- a word that doesn't begin with a sign
unsigned : (w : List ℕ) → IsWord w → integer_of w ≡ option_map pos (number_of w)
unsigned [] h = let some = h.some in absurd (omega (arith, some))
unsigned (b ∷ w) h =
    let byte = (and_parts (is_name_byte b) (list_all is_name_byte w) h.bytes).0 in
    let no_sign : (b == 45) ≡ false = grind (arith, nat_tests) in
    ap (λ t. if t then negative_of w else option_map pos (number_of (b ∷ w))) no_sign

abbrev least : List ℕ
least = codes "9223372036854775808"

-- one digit more
step : (n m d : ℕ) (w : List ℕ) → n / 10 ≡ m → n % 10 ≡ d → 10 ≤ n → n < 2 ^ 64 → decimal m ≡ w → decimal n ≡ w ++ (48 + d) ∷ []
step n m d w rest digit low high h =
    decimal_step n low high ∙ ap₂ (λ k e. decimal k ++ (48 + e) ∷ []) rest digit ∙ ap (λ v. v ++ (48 + d) ∷ []) h

-- the digits of 2 ^ 63, one after the other
nine_1 : decimal 9 ≡ codes "9"
nine_1 = decimal_digit 9 (lit< tt)

nine_2 : decimal 92 ≡ codes "92"
nine_2 = step 92 9 2 (codes "9") refl refl (lit≤ tt) (lit< tt) nine_1

nine_3 : decimal 922 ≡ codes "922"
nine_3 = step 922 92 2 (codes "92") refl refl (lit≤ tt) (lit< tt) nine_2

nine_4 : decimal 9223 ≡ codes "9223"
nine_4 = step 9223 922 3 (codes "922") refl refl (lit≤ tt) (lit< tt) nine_3

nine_5 : decimal 92233 ≡ codes "92233"
nine_5 = step 92233 9223 3 (codes "9223") refl refl (lit≤ tt) (lit< tt) nine_4

nine_6 : decimal 922337 ≡ codes "922337"
nine_6 = step 922337 92233 7 (codes "92233") refl refl (lit≤ tt) (lit< tt) nine_5

nine_7 : decimal 9223372 ≡ codes "9223372"
nine_7 = step 9223372 922337 2 (codes "922337") refl refl (lit≤ tt) (lit< tt) nine_6

nine_8 : decimal 92233720 ≡ codes "92233720"
nine_8 = step 92233720 9223372 0 (codes "9223372") refl refl (lit≤ tt) (lit< tt) nine_7

nine_9 : decimal 922337203 ≡ codes "922337203"
nine_9 = step 922337203 92233720 3 (codes "92233720") refl refl (lit≤ tt) (lit< tt) nine_8

nine_10 : decimal 9223372036 ≡ codes "9223372036"
nine_10 = step 9223372036 922337203 6 (codes "922337203") refl refl (lit≤ tt) (lit< tt) nine_9

nine_11 : decimal 92233720368 ≡ codes "92233720368"
nine_11 = step 92233720368 9223372036 8 (codes "9223372036") refl refl (lit≤ tt) (lit< tt) nine_10

nine_12 : decimal 922337203685 ≡ codes "922337203685"
nine_12 = step 922337203685 92233720368 5 (codes "92233720368") refl refl (lit≤ tt) (lit< tt) nine_11

nine_13 : decimal 9223372036854 ≡ codes "9223372036854"
nine_13 = step 9223372036854 922337203685 4 (codes "922337203685") refl refl (lit≤ tt) (lit< tt) nine_12

nine_14 : decimal 92233720368547 ≡ codes "92233720368547"
nine_14 = step 92233720368547 9223372036854 7 (codes "9223372036854") refl refl (lit≤ tt) (lit< tt) nine_13

nine_15 : decimal 922337203685477 ≡ codes "922337203685477"
nine_15 = step 922337203685477 92233720368547 7 (codes "92233720368547") refl refl (lit≤ tt) (lit< tt) nine_14

nine_16 : decimal 9223372036854775 ≡ codes "9223372036854775"
nine_16 = step 9223372036854775 922337203685477 5 (codes "922337203685477") refl refl (lit≤ tt) (lit< tt) nine_15

nine_17 : decimal 92233720368547758 ≡ codes "92233720368547758"
nine_17 = step 92233720368547758 9223372036854775 8 (codes "9223372036854775") refl refl (lit≤ tt) (lit< tt) nine_16

nine_18 : decimal 922337203685477580 ≡ codes "922337203685477580"
nine_18 = step 922337203685477580 92233720368547758 0 (codes "92233720368547758") refl refl (lit≤ tt) (lit< tt) nine_17

nine_19 : decimal 9223372036854775808 ≡ codes "9223372036854775808"
nine_19 = step 9223372036854775808 922337203685477580 8 (codes "922337203685477580") refl refl (lit≤ tt) (lit< tt) nine_18

below : (n : ℕ) → n < 2 ^ 63 → negative_of (decimal n) ≡ Some (neg_ℤ (pos n))
below n lt = by_test (bytes_eq (decimal n) least) refl
  where
    by_test : (b : Bool) → bytes_eq (decimal n) least ≡ b → negative_of (decimal n) ≡ Some (neg_ℤ (pos n))
    by_test false e =
        ap (λ t. if t then Some (neg_ℤ (pos (2 ^ 63))) else option_map (λ k. neg_ℤ (pos k)) (number_of (decimal n))) e
        ∙ ap (option_map (λ k. neg_ℤ (pos k))) (number_again n lt)
    by_test true e =
        let none : number_of least ≡ None = refl in
        let impossible : Some n ≡ None = sym (number_again n lt) ∙ ap number_of ((bytes_eq-Decides (decimal n) least).0 e) ∙ none in
        absurd (cc)

negative : (n : ℕ) → n < 2 ^ 63 → negative_of (decimal (suc n)) ≡ Some (negsuc n)
negative n lt = ⊎_elim (λ less. below (suc n) less) at_the_end (cases_lt (suc n) (2 ^ 63))
  where
    at_the_end : 2 ^ 63 ≤ suc n → negative_of (decimal (suc n)) ≡ Some (negsuc n)
    at_the_end high =
        let last : n ≡ 9223372036854775807 = omega arith in
        ap (λ k. negative_of (decimal (suc k))) last ∙ ap negative_of nine_19 ∙ ap (λ k. Some (negsuc k)) (sym last)

number_again_signed : (z : ℤ) → is_value (Number z) ≡ true → integer_of (signed_decimal z) ≡ Some z
number_again_signed (pos n) h =
    let small : n < 2 ^ 63 = grind (arith, nat_tests) in
    unsigned (decimal n) (number_is_word n small) ∙ ap (option_map pos) (number_again n small)
number_again_signed (negsuc n) h = negative n (grind (arith, nat_tests))

pub value_again : (version : Version) (v : Value) → is_value v ≡ true → admits version v ≡ true → value_under version (value_text v) ≡ Some v
value_again One (Number z) h a = ap (option_map Number) (number_again_signed z h)
value_again One (Text t) h a = absurd cc
value_again Two (Number z) h a = ap (λ o. number_or_text o (text_of (signed_decimal z))) (number_again_signed z h)
value_again Two (Text t) h a = text_again t h

-- and it is a word
signed_word : (z : ℤ) → is_value (Number z) ≡ true → is_word (signed_decimal z) ≡ true
signed_word (pos n) h = number_word n (grind (arith, nat_tests))
signed_word (negsuc n) h = behind_sign (decimal (suc n)) (at_most (suc n) (grind (arith, nat_tests)))
  where
    behind_sign : (w : List ℕ) → list_all is_visible w ≡ true → is_word (45 ∷ w) ≡ true
    behind_sign w e =
        let some : nat_lt 0 (length (45 ∷ w)) ≡ true = grind (arith, nat_tests) in
        ap₂ (λ x y. x && y) some (ap (λ b. true && b) e)

    at_most : (k : ℕ) → k ≤ 2 ^ 63 → list_all is_visible (decimal k) ≡ true
    at_most k le = ⊎_elim
        (λ less. (and_parts (nat_lt 0 (length (decimal k))) (list_all is_visible (decimal k)) (number_word k less)).1)
        (λ high. let last : k ≡ 9223372036854775808 = omega arith in ap (λ j. list_all is_visible (decimal j)) last ∙ ap (list_all is_visible) nine_19)
        (cases_lt k (2 ^ 63))

signed_begins : (z : ℤ) → is_value (Number z) ≡ true → begins_text (signed_decimal z) ≡ false
signed_begins (pos n) h = number_is_no_text (decimal n) (ap is_some (number_again n (grind (arith, nat_tests))))
signed_begins (negsuc n) h = refl

pub cut_value : (v : Value) → is_value v ≡ true → IsCut (value_text v)
cut_value (Number z) h = cut_word (signed_decimal z) (signed_word z h) (signed_begins z h)
cut_value (Text t) h = cut_text t h
