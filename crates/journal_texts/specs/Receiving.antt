-- What is told of a journal as its text is read.
use Rattle.std.specs.Prelude.{ℕ, ◌≤◌, List, length, Bool}
use Rattle.office_map.specs.PlanValue.{PlanValue}
use Rattle.office_journal.specs.declared.event.Entry.{Entry}
use Rattle.journal_texts.specs.JournalText.{IsJournal}

-- The text is the journal of an office, and this holds of the office, of the journal's entries, and of whether it ends with them. There
-- are no more entries than the text has bytes.
pub record IsReadAs (p : PlanValue) (text : List ℕ) (holds : ℕ → List Entry → Bool → Type 0) : Type 0 where
  pub office : ℕ
  pub entries : List Entry
  pub ends : Bool
  pub journal : IsJournal p text office entries ends
  pub few : length entries ≤ length text
  pub held : holds office entries ends
