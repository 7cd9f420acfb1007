-- The journal that the code keeps.
use Rattle.std.specs.Prelude.{ℕ, ◌≤◌, List, [], ◌∷◌, length, map, Option, None, Some}
use Rattle.office_journal.specs.pages.Told.{Told}
use Rattle.office_journal.specs.pages.Kept.{PagesValue}
use Rattle.office_journal.specs.declared.event.Entry.{Entry}
use Rattle.office_journal.specs.refinement.PackedEntries.{Beside, entry_in, IsPlaced}

-- the entries, how many more there is room for, and for how many more programs and texts
pub record JournalValue : Type 0 where
  pub entries : List Entry
  pub room : ℕ
  pub programs : ℕ
  pub texts : ℕ

-- these packed entries, with this beside, where there is memory for so many programs more and so many texts
abbrev pub journal_of : PagesValue → Beside → ℕ → ℕ → JournalValue
journal_of pages beside programs texts = record { entries = map (entry_in beside) pages.entries; room = pages.room; programs = programs; texts = texts }

-- what each has beside is there
abbrev pub ArePlaced : Beside → List Told → Type 0
ArePlaced b [] = Unit {0}
ArePlaced b (t ∷ ts) = IsPlaced b t × ArePlaced b ts

-- each program is that of one entry, and each text too, so there are no more of them than entries
pub record AreKept (b : Beside) (ts : List Told) : Type 0 where
  pub placed : ArePlaced b ts
  pub few : length b.programs ≤ length ts
  pub few_texts : length b.texts ≤ length ts

-- the texts that this is
abbrev pub texts_of : Option (List ℕ) → List (List ℕ)
texts_of None = []
texts_of (Some text) = text ∷ []
