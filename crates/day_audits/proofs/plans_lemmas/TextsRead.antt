-- The text of a plan means that plan.
use Rattle.std.proofs.Common.{◌≡◌, ℕ, ◌+◌, ◌^◌, ◌<◌, List, [], ◌∷◌, ◌++◌, length, Bool, true, false, nat_lt, Result, Ok, Option, Some, None, is_some, if◌then◌else◌, codes, refl, sym, ap, ◌∙◌, arith, lit<}
use Rattle.std.proofs.lemmas.List.{append-nil}
use Rattle.std.specs.Option.{ok_or}
use Rattle.std.specs.Fmt.{decimal}
use Rattle.std.proofs.lemmas.Bool.Decides.{nat_tests}
use Rattle.std.proofs.lemmas.Fmt.{decimal_digit}
use Rattle.bottle_values.specs.Versions.{number_of}
use Rattle.bottle_values.specs.declared.version.Version.{Version}
use Rattle.bottle_values.specs.declared.version.Version.TheVariants.{One, Two}
use Rattle.office_map.specs.declared.fault.PlanRule.TheVariants.{Header, Limit}
use Rattle.office_map.specs.declared.fault.PlanRefusal.{PlanRefusal}
use Rattle.office_map.specs.Limits.{most_text}
use Rattle.office_map.specs.PlanValue.{PlanValue, with_office, with_pair, with_record}
use Rattle.office_map.specs.PlanText.{◌>>=◌, ◌>>◌, refuse_if, and_then, small_number, version_of, with_run, header_of, empty_plan, at_line, read_header, read_lines, read_statements, plan_of}
use Rattle.office_map.specs.PlanWordLaws.{number_is_no_text}
use Rattle.text_lines.specs.Text as text
use Rattle.text_lines.specs.Text.{lines, statements, statements_from}
use Rattle.session_language.proofs.canonical.Lexemes.{number_again}
use Rattle.journal_texts.specs.wording.Words.{line_of_words}
use Rattle.journal_texts.proofs.wording_lemmas.NamesAndNumbers.{number_word}
use Rattle.day_audits.specs.plans.WrittenPlans.{header_words, office_words, pair_words, record_words, office_lines, pair_lines, record_lines, ended, plan_text, IsWritable, PlanTextsAreRead}
use Rattle.day_audits.proofs.plans_lemmas.PlanLines.{IsCut, AreCut, cut_word, line_is_cut}
use Rattle.day_audits.proofs.plans_lemmas.LinesRead.{statement_is, section_read}
use Rattle.day_audits.proofs.plans_lemmas.OfficesRead.{offices_read, offices_added}
use Rattle.day_audits.proofs.plans_lemmas.PairsRead.{pairs_read, pairs_added}
use Rattle.day_audits.proofs.plans_lemmas.RecordsRead.{records_read, records_added}

abbrev too_much : PlanRefusal
too_much = record { rule = Limit; line = 0 }

-- a version that is written is told again
told_again : (v : Version) → version_of (decimal (number_of v)) ≡ Some v
told_again One = let one : decimal 1 ≡ codes "1" = decimal_digit 1 (lit< tt) in ap version_of one
told_again Two = let two : decimal 2 ≡ codes "2" = decimal_digit 2 (lit< tt) in ap version_of two

low : (v : Version) → number_of v < 2 ^ 63
low One = lit< tt
low Two = lit< tt

cut_number : (n : ℕ) → n < 2 ^ 63 → IsCut (decimal n)
cut_number n h = cut_word (decimal n) (number_word n h) (number_is_no_text (decimal n) (ap is_some (number_again n h)))

header_good : (v : Version) (run : ℕ) → run < 2 ^ 32 → AreCut (header_words v run)
header_good v run small = (cut_word (codes "plan") refl refl, (cut_number (number_of v) (low v), (cut_word (codes "run") refl refl, (cut_number run (omega arith), tt))))

header_read : (v : Version) (run n : ℕ) → version_of (decimal (number_of v)) ≡ Some v → run < 2 ^ 32 → read_header (n, line_of_words (header_words v run)) ≡ Ok (empty_plan v run)
unfolding read_header
header_read v run n told small =
    let fits : nat_lt run (2 ^ 32) ≡ true = grind (arith, nat_tests) in
    let then_plan : Option (Version × ℕ) → Result PlanValue PlanRefusal = λ o. at_line n (ok_or o Header >>= λ h. Ok (empty_plan h.0 h.1)) in
    ap (λ o. then_plan (and_then o header_of)) (line_is_cut (header_words v run) (header_good v run small))
    ∙ ap (λ o. then_plan (with_run o (small_number (text.number_of (decimal run))))) told
    ∙ ap (λ o. then_plan (with_run (Some v) (small_number o))) (number_again run (omega arith))
    ∙ ap (λ b. then_plan (with_run (Some v) (if b then Some run else None))) fits

whole : (b : Bool) (r : Result PlanValue PlanRefusal) (p : PlanValue) (e f : PlanRefusal) → b ≡ false → r ≡ Ok p → nat_lt (length p.offices) 2 ≡ false
    → (refuse_if b e >> (r >>= λ q. refuse_if (nat_lt (length q.offices) 2) f >> Ok q)) ≡ Ok p
whole b r p e f short read some =
    ap (λ t. refuse_if t e >> (r >>= λ q. refuse_if (nat_lt (length q.offices) 2) f >> Ok q)) short
    ∙ ap (λ t. t >>= λ q. refuse_if (nat_lt (length q.offices) 2) f >> Ok q) read
    ∙ ap (λ t. refuse_if t f >> Ok p) some

module _ (p : PlanValue) (w : IsWritable p) where
  abbrev with_header : PlanValue
  with_header = record { version = p.version; run = p.run; offices = []; pairs = []; records = [] }

  abbrev with_offices : PlanValue
  with_offices = record { version = p.version; run = p.run; offices = p.offices; pairs = []; records = [] }

  abbrev with_pairs : PlanValue
  with_pairs = record { version = p.version; run = p.run; offices = p.offices; pairs = p.pairs; records = [] }

  offices_then : (n : ℕ) (rest : List ℕ) → (m : ℕ) × (read_lines with_header (statements_from n (lines (office_lines p.offices ++ rest))) ≡ read_lines with_offices (statements_from m (lines rest)))
  offices_then n rest =
      let s = section_read office_words with_office with_header p.offices n rest (offices_read p w.consistent) in
      (s.0, s.1 ∙ ap (λ q. read_lines q (statements_from s.0 (lines rest))) (offices_added p w.consistent))

  pairs_then : (n : ℕ) (rest : List ℕ) → (m : ℕ) × (read_lines with_offices (statements_from n (lines (pair_lines p p.pairs ++ rest))) ≡ read_lines with_pairs (statements_from m (lines rest)))
  pairs_then n rest =
      let s = section_read (pair_words p) with_pair with_offices p.pairs n rest (pairs_read p w.consistent) in
      (s.0, s.1 ∙ ap (λ q. read_lines q (statements_from s.0 (lines rest))) (pairs_added p w.consistent))

  records_last : (n : ℕ) → read_lines with_pairs (statements_from n (lines (record_lines p p.records))) ≡ Ok p
  records_last n =
      let s = section_read (record_words p) with_record with_pairs p.records n [] (records_read p w.consistent w.values) in
      ap (λ t. read_lines with_pairs (statements_from n (lines t))) (sym (append-nil (record_lines p p.records)))
      ∙ s.1
      ∙ ap Ok (records_added p w.consistent w.values)

  lines_read : (n : ℕ) → read_lines with_header (statements_from n (lines (office_lines p.offices ++ (pair_lines p p.pairs ++ record_lines p p.records)))) ≡ Ok p
  lines_read n =
      let offices = offices_then n (pair_lines p p.pairs ++ record_lines p p.records) in
      let pairs = pairs_then offices.0 (record_lines p p.records) in
      offices.1 ∙ pairs.1 ∙ records_last pairs.0

  statements_are : statements (plan_text p) ≡ (1, line_of_words (header_words p.version p.run)) ∷ statements_from 2 (lines (office_lines p.offices ++ (pair_lines p p.pairs ++ record_lines p p.records)))
  unfolding plan_text
  statements_are =
      statement_is 1 (codes "plan") (decimal (number_of p.version) ∷ codes "run" ∷ decimal p.run ∷ []) (office_lines p.offices ++ (pair_lines p p.pairs ++ record_lines p p.records)) (record { some = omega arith; bytes = refl }) (header_good p.version p.run w.run)

  statements_read : read_statements (statements (plan_text p)) ≡ Ok p
  statements_read =
      let rest = statements_from 2 (lines (office_lines p.offices ++ (pair_lines p p.pairs ++ record_lines p p.records))) in
      ap read_statements statements_are
      ∙ ap (λ r. r >>= λ q. read_lines q rest) (header_read p.version p.run 1 (told_again p.version) w.run)
      ∙ lines_read 2

  pub text_read : plan_of (plan_text p) ≡ Ok p
  unfolding plan_of
  text_read =
      let short : nat_lt most_text (length (plan_text p)) ≡ false = (let le = w.short in grind (arith, nat_tests)) in
      let some : nat_lt (length p.offices) 2 ≡ false = (let le = w.two_offices in grind (arith, nat_tests)) in
      whole (nat_lt most_text (length (plan_text p))) (read_statements (statements (plan_text p))) p too_much too_much short statements_read some

pub texts_are_read : PlanTextsAreRead
texts_are_read p w = text_read p w
