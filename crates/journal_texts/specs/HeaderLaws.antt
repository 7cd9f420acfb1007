-- Whose journal a first line begins is an office of the plan.
use Rattle.std.proofs.Common.{◌≡◌, ℕ, ◌<◌, Bool, true, false, List, [], length, Option, None, Some, Ok, Err, Result, refl, ap, ◌∙◌}
use Rattle.std.specs.Prelude.{if◌then◌else◌, ◌==◌}
use Rattle.std.specs.Option.{ok_or}
use Rattle.std.proofs.lemmas.List.Quantifiers.{position-Some}
use Rattle.office_map.specs.PlanValue.{PlanValue, office_named}
use Rattle.office_map.specs.PlanText.{and_then}
use Rattle.text_lines.specs.Text.{plain_words}
use Rattle.office_map.specs.declared.entries.OfficeEntry.{OfficeEntry}
use Rattle.journal_texts.specs.declared.fault.JournalRule.{JournalRule}
use Rattle.journal_texts.specs.declared.fault.JournalRule.TheVariants.{Journal, JournalHeader}
use Rattle.journal_texts.specs.JournalText.{header_said, header_of, office_of_header}

named : (p : PlanValue) (name : List ℕ) (o : Option ℕ) (a : ℕ) → office_named p name ≡ o → ok_or o JournalHeader ≡ Ok a → a < length p.offices
named p name None a is e = absurd (let both : ◌≡◌ {A = Result ℕ JournalRule} (Err JournalHeader) (Ok a) = e in cc)
named p name (Some b) a is e =
    let both : ◌≡◌ {A = Result ℕ JournalRule} (Ok b) (Ok a) = e in
    let same : b ≡ a = cc in
    let found : office_named p name ≡ Some a = is ∙ ap Some same in
    let none : OfficeEntry = record { name = []; address = [] } in
    (position-Some _ p.offices a none found).0

pub headed : (p : PlanValue) (h : Option (ℕ × List ℕ)) (a : ℕ) → office_of_header p h ≡ Ok a → a < length p.offices
headed p None a e = absurd (let both : ◌≡◌ {A = Result ℕ JournalRule} (Err Journal) (Ok a) = e in cc)
headed p (Some h) a e = by_run (h.0 == p.run) e
  where
    by_run : (b : Bool) → (if b then ok_or (office_named p h.1) JournalHeader else Err JournalHeader) ≡ Ok a → a < length p.offices
    by_run true e = named p h.1 (office_named p h.1) a refl e
    by_run false e = absurd (let both : ◌≡◌ {A = Result ℕ JournalRule} (Err JournalHeader) (Ok a) = e in cc)

pub office_of_plan : (p : PlanValue) (line : List ℕ) (a : ℕ) → header_of p line ≡ Ok a → a < length p.offices
office_of_plan p line a e = headed p (and_then (plain_words line) header_said) a e
