-- The lines of offices are read.
use Rattle.std.proofs.Common.{◌≡◌, ◌≢◌, ℕ, ◌+◌, List, [], ◌∷◌, ◌++◌, length, get_or, Bool, true, false, not, ◌&&◌, nat_lt, nat_le, Ok, Some, None, is_some, if◌then◌else◌, codes, refl, sym, ap, ap₂, ◌∙◌, subst, arith, length-append, append_assoc, ⊎_elim}
use Rattle.std.proofs.lemmas.List.{append-nil}
use Rattle.std.specs.Prelude.{All, AllPairs, IsTrue}
use Rattle.std.specs.List.{list_all, list_any}
use Rattle.std.specs.Str.{bytes_eq}
use Rattle.std.proofs.lemmas.Bool.{and_parts, or_cases, both_ways}
use Rattle.std.proofs.lemmas.Bool.Decides.{nat_tests}
use Rattle.std.proofs.lemmas.List.Folds.{list_any_none}
use Rattle.std.proofs.lemmas.Slice.Eq.{bytes_eq-Decides}
use Rattle.bottle_values.specs.ListLaws.{all_weaker}
use Rattle.office_map.specs.declared.entries.OfficeEntry.{OfficeEntry}
use Rattle.office_map.specs.declared.fault.PlanRule.TheVariants.{NameTwice, Limit}
use Rattle.office_map.specs.Address.{is_address, is_address_byte, is_socket}
use Rattle.office_map.specs.PlanValue.{PlanValue, office_named, with_office, no_address}
use Rattle.office_map.specs.PlanText.{◌>>◌, refuse_if, AnOffice, office_of, is_address_taken}
use Rattle.office_map.specs.PlanWordLaws.{address_is_no_text}
use Rattle.office_map.specs.Consistency.{IsConsistent}
use Rattle.text_lines.specs.Text.{is_name}
use Rattle.session_language.proofs.canonical.Lexemes.{name_bytes, name_again}
use Rattle.journal_texts.specs.wording.Words.{is_visible, is_word}
use Rattle.journal_texts.proofs.wording_lemmas.NamesAndNumbers.{is_a_word}
use Rattle.day_audits.specs.plans.WrittenPlans.{office_words}
use Rattle.day_audits.proofs.plans_lemmas.Places.{middle, before_it, new_name, other_bytes, not_at_least}
use Rattle.day_audits.proofs.plans_lemmas.PlanLines.{cut_word, cut_name}
use Rattle.day_audits.proofs.plans_lemmas.LinesRead.{Reads, AreRead, all_added}

-- ---- words

visible_byte : (b : ℕ) → is_address_byte b ≡ true → is_visible b ≡ true
visible_byte b h = grind (arith, nat_tests)

socket_word : (w : List ℕ) → is_socket w ≡ true → is_word w ≡ true
socket_word [] h = cc
socket_word (b ∷ w) h =
    let some : nat_lt 0 (length (b ∷ w)) ≡ true = grind (arith, nat_tests) in
    ap₂ (λ x y. x && y) some (all_weaker is_address_byte is_visible visible_byte (b ∷ w) (and_parts (list_all is_address_byte (b ∷ w)) _ h).0)

address_word : (w : List ℕ) → is_address w ≡ true → is_word w ≡ true
address_word w h = ⊎_elim (λ e. ap is_word ((bytes_eq-Decides w (codes "-")).0 e)) (socket_word w) (or_cases (bytes_eq w (codes "-")) (is_socket w) h)

pub name_word : (w : List ℕ) → is_name w ≡ true → is_word w ≡ true
name_word w h = is_a_word w (name_bytes w h).word

-- ---- declarations

office_done : (q : PlanValue) (named taken full : Bool) → named ≡ false → taken ≡ false → full ≡ false → (refuse_if named NameTwice >> (refuse_if taken NameTwice >> (refuse_if full Limit >> Ok q))) ≡ Ok q
office_done q true taken full e f g = absurd cc
office_done q false true full e f g = absurd cc
office_done q false false true e f g = absurd cc
office_done q false false false e f g = refl

module _ (p : PlanValue) (ok : IsConsistent p) where
  abbrev so_far : List OfficeEntry → PlanValue
  so_far offices = record { version = p.version; run = p.run; offices = offices; pairs = []; records = [] }

  free : (pre : List OfficeEntry) (x : OfficeEntry) → All (λ (y : OfficeEntry). y.address ≡ x.address → y.address ≡ no_address) pre → is_address_taken (so_far pre) x.address ≡ false
  free pre x h = by_test (bytes_eq x.address no_address) refl
    where
      by_test : (b : Bool) → bytes_eq x.address no_address ≡ b → is_address_taken (so_far pre) x.address ≡ false
      by_test true e = ap (λ b. not b && list_any (λ (o : OfficeEntry). bytes_eq o.address x.address) pre) e
      by_test false e =
          ap (λ b. not b && list_any (λ (o : OfficeEntry). bytes_eq o.address x.address) pre) e
          ∙ list_any_none (λ (o : OfficeEntry). bytes_eq o.address x.address) pre
          (λ k d lt. other_bytes (get_or pre k d).address x.address (λ same. both_ways (bytes_eq x.address no_address) e ((bytes_eq-Decides x.address no_address).1 (sym same ∙ h k d lt same))))

  one_office : (pre : List OfficeEntry) (x : OfficeEntry) (xs : List OfficeEntry) → pre ++ x ∷ xs ≡ p.offices → Reads (so_far pre) (office_words x) (with_office (so_far pre) x)
  one_office pre x xs whole =
      let Named : OfficeEntry → Type 0 = λ o. IsTrue (is_name o.name) in
      let HasAddress : OfficeEntry → Type 0 = λ o. IsTrue (is_address o.address) in
      let Differ : OfficeEntry → OfficeEntry → Type 0 = λ a b. a.name ≢ b.name in
      let Apart : OfficeEntry → OfficeEntry → Type 0 = λ a b. a.address ≡ b.address → a.address ≡ no_address in
      let named : is_name x.name ≡ true = middle Named pre x xs (subst (All Named) (sym whole) ok.offices_are_named) in
      let address : is_address x.address ≡ true = middle HasAddress pre x xs (subst (All HasAddress) (sym whole) ok.offices_have_addresses) in
      let new = new_name (λ (o : OfficeEntry). o.name) pre x xs (subst (AllPairs Differ) (sym whole) ok.office_names) in
      let apart = before_it Apart pre x xs (subst (AllPairs Apart) (sym whole) ok.addresses) in
      let room : nat_le 16 (length pre) ≡ false = not_at_least 16 (length pre) (omega (arith, ap length whole, length-append pre (x ∷ xs), ok.offices_fit)) in
      record {
        keyword = codes "office";
        others = x.name ∷ x.address ∷ [];
        is = refl;
        word = record { some = omega arith; bytes = refl };
        good = (cut_word (codes "office") refl refl, (cut_name x.name (name_word x.name named) (name_again x.name named), (cut_word x.address (address_word x.address address) (address_is_no_text x.address (ap is_some (ap (λ b. if b then Some x.address else None) address))), tt)));
        declaration = AnOffice x.name x.address;
        declares = ap₂ (λ n a. office_of n a) (name_again x.name named) (ap (λ b. if b then Some x.address else None) address);
        accepted = office_done (with_office (so_far pre) x) (is_some (office_named (so_far pre) x.name)) (is_address_taken (so_far pre) x.address) (nat_le 16 (length pre)) (ap is_some new) (free pre x apart) room;
      }

  are_read : (pre xs : List OfficeEntry) → pre ++ xs ≡ p.offices → AreRead office_words with_office (so_far pre) xs
  are_read pre [] whole = tt
  are_read pre (x ∷ xs) whole = (one_office pre x xs whole, are_read (pre ++ x ∷ []) xs (append_assoc pre (x ∷ []) xs ∙ whole))

  added : (pre xs : List OfficeEntry) → all_added office_words with_office (so_far pre) xs ≡ so_far (pre ++ xs)
  added pre [] = ap so_far (sym (append-nil pre))
  added pre (x ∷ xs) = added (pre ++ x ∷ []) xs ∙ ap so_far (append_assoc pre (x ∷ []) xs)

  pub offices_read : AreRead office_words with_office (so_far []) p.offices
  offices_read = are_read [] p.offices refl

  pub offices_added : all_added office_words with_office (so_far []) p.offices ≡ so_far p.offices
  offices_added = added [] p.offices
