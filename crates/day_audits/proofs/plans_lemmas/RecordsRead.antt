-- The lines of records are read.
use Rattle.std.proofs.Common.{◌≡◌, ◌≢◌, ℕ, ◌+◌, ◌<◌, List, [], ◌∷◌, ◌++◌, Bool, true, false, not, ◌&&◌, nat_le, Ok, Option, Some, None, is_some, if◌then◌else◌, codes, refl, sym, ap, ◌∙◌, subst, arith, append_assoc}
use Rattle.std.proofs.lemmas.List.{append-nil}
use Rattle.std.specs.Prelude.{All, AllPairs, IsTrue, ◌==◌}
use Rattle.std.specs.List.{count_by}
use Rattle.std.specs.Option.{ok_or}
use Rattle.std.specs.Str.{bytes_eq}
use Rattle.std.proofs.lemmas.Bool.{and_from, eq-eqb, or_left}
use Rattle.bottle_values.specs.Operations.{is_value}
use Rattle.bottle_values.specs.Printed.{value_text}
use Rattle.bottle_values.specs.Versions.{admits}
use Rattle.office_map.specs.declared.entries.RecordEntry.{RecordEntry}
use Rattle.office_map.specs.declared.fault.PlanRule.TheVariants.{UnknownName, NameTwice, Limit}
use Rattle.office_map.specs.NeighbourLaws.{neighbours_apart}
use Rattle.office_map.specs.PlanValue.{PlanValue, office_named, record_named, are_neighbours, lies_between, records_between, start_end, with_record}
use Rattle.office_map.specs.PlanText.{◌>>=◌, ◌>>◌, refuse_if, ARecord, record_of, value_under}
use Rattle.office_map.specs.Consistency.{IsConsistent}
use Rattle.text_lines.specs.Text.{is_name, name_of}
use Rattle.session_language.proofs.canonical.Lexemes.{name_again}
use Rattle.session_reports.specs.Names.{office_name}
use Rattle.journal_texts.proofs.wording_lemmas.NamesAndNumbers.{office_name_again, name_of_office}
use Rattle.day_audits.specs.plans.WrittenPlans.{record_words}
use Rattle.day_audits.proofs.plans_lemmas.Places.{middle, new_name, counted, not_at_least}
use Rattle.day_audits.proofs.plans_lemmas.PlanLines.{cut_word, cut_name}
use Rattle.day_audits.proofs.plans_lemmas.Names.{cut_office, cut_end, end_told, end_is_one, neighbours_are_offices}
use Rattle.day_audits.proofs.plans_lemmas.ValueWords.{value_again, cut_value}
use Rattle.day_audits.proofs.plans_lemmas.OfficesRead.{name_word}
use Rattle.day_audits.proofs.plans_lemmas.LinesRead.{Reads, AreRead, all_added}

three_done : (q : PlanValue) (s n f : Bool) → s ≡ false → n ≡ false → f ≡ false → (refuse_if s UnknownName >> (refuse_if n NameTwice >> (refuse_if f Limit >> Ok q))) ≡ Ok q
three_done q true n f d e g = absurd cc
three_done q false true f d e g = absurd cc
three_done q false false true d e g = absurd cc
three_done q false false false d e g = refl

record_done : (a b : Option ℕ) (apart : ℕ → ℕ → Bool) (named : Bool) (full : ℕ → ℕ → Bool) (q : ℕ → ℕ → PlanValue) (x y : ℕ) → a ≡ Some x → b ≡ Some y → apart x y ≡ false → named ≡ false → full x y ≡ false
    → (ok_or a UnknownName >>= λ u. ok_or b UnknownName >>= λ v. refuse_if (apart u v) UnknownName >> (refuse_if named NameTwice >> (refuse_if (full u v) Limit >> Ok (q u v)))) ≡ Ok (q x y)
record_done a b apart named full q x y e f s n g =
    ap (λ o. ok_or o UnknownName >>= λ u. ok_or b UnknownName >>= λ v. refuse_if (apart u v) UnknownName >> (refuse_if named NameTwice >> (refuse_if (full u v) Limit >> Ok (q u v)))) e
    ∙ ap (λ o. ok_or o UnknownName >>= λ v. refuse_if (apart x v) UnknownName >> (refuse_if named NameTwice >> (refuse_if (full x v) Limit >> Ok (q x v)))) f
    ∙ three_done (q x y) (apart x y) named (full x y) s n g

module _ (p : PlanValue) (ok : IsConsistent p) (values : All (λ (r : RecordEntry). IsTrue (is_value r.value)) p.records) where
  abbrev so_far : List RecordEntry → PlanValue
  so_far records = record { version = p.version; run = p.run; offices = p.offices; pairs = p.pairs; records = records }

  one_record : (pre : List RecordEntry) (x : RecordEntry) (xs : List RecordEntry) → pre ++ x ∷ xs ≡ p.records → Reads (so_far pre) (record_words p x) (with_record (so_far pre) x)
  one_record pre x xs whole =
      let Named : RecordEntry → Type 0 = λ r. IsTrue (is_name r.name) in
      let HasValue : RecordEntry → Type 0 = λ r. IsTrue (is_value r.value) in
      let Admitted : RecordEntry → Type 0 = λ r. IsTrue (admits p.version r.value) in
      let Near : RecordEntry → Type 0 = λ r. IsTrue (are_neighbours p r.first r.second) in
      let Differ : RecordEntry → RecordEntry → Type 0 = λ a b. a.name ≢ b.name in
      let named : is_name x.name ≡ true = middle Named pre x xs (subst (All Named) (sym whole) ok.records_are_named) in
      let value : is_value x.value ≡ true = middle HasValue pre x xs (subst (All HasValue) (sym whole) values) in
      let admitted : admits p.version x.value ≡ true = middle Admitted pre x xs (subst (All Admitted) (sym whole) ok.values_are_admitted) in
      let near : are_neighbours p x.first x.second ≡ true = middle Near pre x xs (subst (All Near) (sym whole) ok.records_have_pairs) in
      let new = new_name (λ (r : RecordEntry). r.name) pre x xs (subst (AllPairs Differ) (sym whole) ok.record_names) in
      let ends = neighbours_are_offices p x.first x.second ok near in
      let apart : x.first ≢ x.second = neighbours_apart p x.first x.second ok near in
      let between = lies_between x.first x.second in
      let here : between x ≡ true = or_left (x.first == x.first && x.second == x.second) (x.first == x.second && x.second == x.first) (and_from (x.first == x.first) (x.second == x.second) (eq-eqb x.first x.first refl) (eq-eqb x.second x.second refl)) in
      let few : count_by between pre < 8 = omega (arith, counted between pre x xs here, ap (count_by between) whole, ok.records_fit x.first x.second) in
      let room : nat_le 8 (records_between (so_far pre) x.first x.second) ≡ false = not_at_least 8 (count_by between pre) few in
      let a = office_name p x.first in
      let b = office_name p x.second in
      let e = office_name p (start_end x) in
      let v = value_text x.value in
      record {
        keyword = codes "record";
        others = x.name ∷ a ∷ b ∷ v ∷ codes "at" ∷ e ∷ [];
        is = refl;
        word = record { some = omega arith; bytes = refl };
        good = (cut_word (codes "record") refl refl, (cut_name x.name (name_word x.name named) (name_again x.name named), (cut_office p ok x.first ends.0, (cut_office p ok x.second ends.1, (cut_value x.value value, (cut_word (codes "at") refl refl, (cut_end p ok x.starts_at_first x.first x.second ends.0 ends.1, tt)))))));
        declaration = ARecord x.name a b x.value x.starts_at_first;
        declares =
            ap (λ t. if t then record_of (name_of x.name) (name_of a) (name_of b) (value_under p.version v) (bytes_eq e a) else None) (end_is_one p ok x.first x.second x.starts_at_first)
            ∙ ap (λ t. record_of (name_of x.name) (name_of a) (name_of b) (value_under p.version v) t) (end_told p ok x.first x.second ends.0 ends.1 apart x.starts_at_first)
            ∙ ap (λ o. record_of o (name_of a) (name_of b) (value_under p.version v) x.starts_at_first) (name_again x.name named)
            ∙ ap (λ o. record_of (Some x.name) o (name_of b) (value_under p.version v) x.starts_at_first) (name_of_office p ok x.first ends.0)
            ∙ ap (λ o. record_of (Some x.name) (Some a) o (value_under p.version v) x.starts_at_first) (name_of_office p ok x.second ends.1)
            ∙ ap (λ o. record_of (Some x.name) (Some a) (Some b) o x.starts_at_first) (value_again p.version x.value value admitted);
        accepted = record_done (office_named p a) (office_named p b) (λ u w. not (are_neighbours p u w)) (is_some (record_named (so_far pre) x.name)) (λ u w. nat_le 8 (records_between (so_far pre) u w))
            (λ u w. with_record (so_far pre) (record { name = x.name; first = u; second = w; value = x.value; starts_at_first = x.starts_at_first })) x.first x.second
            (office_name_again p ok x.first ends.0) (office_name_again p ok x.second ends.1) (ap not near) (ap is_some new) room;
      }

  are_read : (pre xs : List RecordEntry) → pre ++ xs ≡ p.records → AreRead (record_words p) with_record (so_far pre) xs
  are_read pre [] whole = tt
  are_read pre (x ∷ xs) whole = (one_record pre x xs whole, are_read (pre ++ x ∷ []) xs (append_assoc pre (x ∷ []) xs ∙ whole))

  added : (pre xs : List RecordEntry) → all_added (record_words p) with_record (so_far pre) xs ≡ so_far (pre ++ xs)
  added pre [] = ap so_far (sym (append-nil pre))
  added pre (x ∷ xs) = added (pre ++ x ∷ []) xs ∙ ap so_far (append_assoc pre (x ∷ []) xs)

  pub records_read : AreRead (record_words p) with_record (so_far []) p.records
  records_read = are_read [] p.records refl

  pub records_added : all_added (record_words p) with_record (so_far []) p.records ≡ p
  records_added = added [] p.records
