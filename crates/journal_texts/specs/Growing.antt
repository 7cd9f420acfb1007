-- Texts of journals that grow.
use Rattle.std.specs.Prelude.{◌≡◌, ◌<◌, ◌≤◌, ◌^◌, ℕ, Bool, true, false, ◌==◌, List, [], ◌∷◌, ◌++◌, length, take, All, ◌⊎◌}
use Rattle.std.specs.List.{list_any}
use Rattle.office_map.specs.PlanValue.{PlanValue}
use Rattle.office_map.specs.Consistency.{IsConsistent}
use Rattle.office_journal.specs.declared.event.Entry.{Entry}
use Rattle.site_core.specs.Journals.{IsLegal}
use Rattle.journal_texts.specs.JournalText.{IsJournal}
use Rattle.journal_texts.specs.Written.{header_line, lines_of, journal_text}
use Rattle.journal_texts.specs.refinement.WrittenValues.{EntryReadsBack}

-- A journal's text goes on by the lines of the entries that are added: what was written of it stays as it is.
abbrev pub TextsGoOn : Type 0
TextsGoOn = (p : PlanValue) (office : ℕ) (entries more : List Entry) → journal_text p office (entries ++ more) ≡ journal_text p office entries ++ lines_of p more

-- What was written of a legal journal, in whatever parts, is read as that journal.
abbrev pub WrittenIsRead : Type 0
WrittenIsRead = (p : PlanValue) (office : ℕ) (entries : List Entry) → IsConsistent p → office < length p.offices → p.run < 2 ^ 32 → IsLegal (record { plan = p; me = office; entries = entries }) → All (EntryReadsBack p) entries → IsJournal p (journal_text p office entries) office entries true

-- ---- texts that are torn

-- an LF stands in it
abbrev pub has_end : List ℕ → Bool
has_end = list_any (λ b. b == 10)

-- a text up to its last LF, with it, and what stands after it
pub record IsCutAfterLines (text whole rest : List ℕ) : Type 0 where
  pub parts : text ≡ whole ++ rest
  pub torn : has_end rest ≡ false
  pub ended : (whole ≡ []) ⊎ ((before : List ℕ) × (whole ≡ before ++ 10 ∷ []))

-- Of a beginning of a journal's text that has its first line, the whole lines are the text of the journal's first entries: of all
-- those at least whose text is in it.
pub record IsBeginning (p : PlanValue) (office : ℕ) (entries : List Entry) (text whole : List ℕ) : Type 0 where
  pub count : ℕ
  pub is : whole ≡ journal_text p office (take count entries)
  pub has : (m : ℕ) → m ≤ length entries → length (journal_text p office (take m entries)) ≤ length text → m ≤ count

-- so it is of every beginning of a legal journal's text that has its first line
abbrev pub TornTextsBegin : Type 0
TornTextsBegin = (p : PlanValue) (office : ℕ) (entries : List Entry) (text whole rest more : List ℕ) → IsConsistent p → office < length p.offices → p.run < 2 ^ 32 → IsLegal (record { plan = p; me = office; entries = entries }) →
    All (EntryReadsBack p) entries → journal_text p office entries ≡ text ++ more → IsCutAfterLines text whole rest → length (header_line p office) ≤ length text → IsBeginning p office entries text whole
