-- Names and numbers are words, and read back.
use Rattle.std.proofs.Common.{◌≡◌, ℕ, ◌<◌, ◌≤◌, ◌^◌, List, [], length, get_or, true, ◌&&◌, nat_lt, nat_le, Some, option_map, unwrap_or, refl, ap, ap₂, ◌∙◌, arith}
use Rattle.std.specs.Prelude.{slice_get}
use Rattle.std.specs.Fmt.{decimal}
use Rattle.std.proofs.lemmas.Bool.Decides.{nat_tests}
use Rattle.std.proofs.lemmas.Option.{slice_get-get_or}
use Rattle.bottle_values.specs.ListLaws.{all_weaker}
use Rattle.bottle_values.specs.Operations.{nought}
use Rattle.office_map.specs.declared.entries.OfficeEntry.{OfficeEntry}
use Rattle.office_map.specs.declared.entries.RecordEntry.{RecordEntry}
use Rattle.office_map.specs.PlanValue.{PlanValue, office_named, record_named}
use Rattle.office_map.specs.Consistency.{IsConsistent}
use Rattle.office_map.specs.PlanText.{and_then}
use Rattle.text_lines.specs.Text.{is_name, is_name_byte, name_of}
use Rattle.session_language.proofs.canonical.Lexemes.{IsWord, number_is_word, number_again, name_bytes, name_again}
use Rattle.session_language.proofs.canonical.NameResolution.{office_found, record_found, office_is_named, record_is_named}
use Rattle.journal_texts.specs.wording.Words.{office_name, record_name, office_by, record_by, counted, count_by, is_visible, is_word}

visible_byte : (b : ℕ) → is_name_byte b ≡ true → is_visible b ≡ true
visible_byte b h = grind (arith, nat_tests)

pub is_a_word : (w : List ℕ) → IsWord w → is_word w ≡ true
is_a_word w h =
    let some : nat_lt 0 (length w) ≡ true = let s = h.some in grind (arith, nat_tests) in
    ap₂ (λ x y. x && y) some (all_weaker is_name_byte is_visible visible_byte w h.bytes)

pub number_word : (n : ℕ) → n < 2 ^ 63 → is_word (decimal n) ≡ true
number_word n h = is_a_word (decimal n) (number_is_word n h)

name_word : (w : List ℕ) → is_name w ≡ true → is_word w ≡ true
name_word w h = is_a_word w (name_bytes w h).word

-- a number from 1 to the most
pub count_again : (most n : ℕ) → 1 ≤ n → n ≤ most → n < 2 ^ 63 → count_by most (decimal n) ≡ Some n
count_again most n low high small =
    let some : nat_le 1 n ≡ true = grind (arith, nat_tests) in
    let few : nat_le n most ≡ true = grind (arith, nat_tests) in
    ap (λ o. and_then o (counted most)) (number_again n small) ∙ rw (some, few) refl

module _ (p : PlanValue) (ok : IsConsistent p) where
  abbrev no_office : OfficeEntry
  no_office = record { name = []; address = [] }

  office_at : (o : ℕ) → o < length p.offices → slice_get p.offices o ≡ Some (get_or p.offices o no_office)
  office_at o lt = slice_get-get_or p.offices o no_office lt

  office_name_is : (o : ℕ) → o < length p.offices → office_name p o ≡ (get_or p.offices o no_office).name
  office_name_is o lt = ap (λ e. unwrap_or (option_map (λ (x : OfficeEntry). x.name) e) []) (office_at o lt)

  office_name_good : (o : ℕ) → o < length p.offices → is_name (office_name p o) ≡ true
  office_name_good o lt = ap is_name (office_name_is o lt) ∙ office_is_named p ok o _ (office_at o lt)

  pub office_name_again : (o : ℕ) → o < length p.offices → office_named p (office_name p o) ≡ Some o
  office_name_again o lt = ap (office_named p) (office_name_is o lt) ∙ office_found p ok o _ (office_at o lt)

  pub name_of_office : (o : ℕ) → o < length p.offices → name_of (office_name p o) ≡ Some (office_name p o)
  name_of_office o lt = name_again (office_name p o) (office_name_good o lt)

  pub office_word : (o : ℕ) → o < length p.offices → is_word (office_name p o) ≡ true
  office_word o lt = name_word (office_name p o) (office_name_good o lt)

  pub office_again : (o : ℕ) → o < length p.offices → office_by p (office_name p o) ≡ Some o
  office_again o lt = ap (λ w. and_then w (office_named p)) (name_of_office o lt) ∙ office_name_again o lt

  abbrev no_record : RecordEntry
  no_record = record { name = []; first = 0; second = 0; value = nought; starts_at_first = true }

  record_at : (r : ℕ) → r < length p.records → slice_get p.records r ≡ Some (get_or p.records r no_record)
  record_at r lt = slice_get-get_or p.records r no_record lt

  record_name_is : (r : ℕ) → r < length p.records → record_name p r ≡ (get_or p.records r no_record).name
  record_name_is r lt = ap (λ e. unwrap_or (option_map (λ (x : RecordEntry). x.name) e) []) (record_at r lt)

  record_name_good : (r : ℕ) → r < length p.records → is_name (record_name p r) ≡ true
  record_name_good r lt = ap is_name (record_name_is r lt) ∙ record_is_named p ok r _ (record_at r lt)

  pub record_word : (r : ℕ) → r < length p.records → is_word (record_name p r) ≡ true
  record_word r lt = name_word (record_name p r) (record_name_good r lt)

  pub record_again : (r : ℕ) → r < length p.records → record_by p (record_name p r) ≡ Some r
  record_again r lt =
      ap (λ w. and_then w (record_named p)) (name_again (record_name p r) (record_name_good r lt))
      ∙ ap (record_named p) (record_name_is r lt)
      ∙ record_found p ok r _ (record_at r lt)
