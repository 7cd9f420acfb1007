-- The pages in which entries are kept.
use Rattle.std.specs.Prelude.{◌≡◌, ℕ, ◌-◌, ◌≤◌, min, List, [], ◌∷◌, ◌++◌, length}
use Rattle.office_journal.specs.pages.Told.{Told}
use Rattle.office_journal.specs.pages.Limits.{most_entries}

-- the entries of these pages, one page after the other
abbrev pub entries_of : List (List Told) → List Told
entries_of [] = []
entries_of (page ∷ pages) = page ++ entries_of pages

-- none of these pages takes an entry more
abbrev pub AreFull : List (List Told) → Type 0
AreFull [] = Unit {0}
AreFull (page ∷ pages) = (length page ≡ 256) × AreFull pages

-- how many more there is room for: in memory, in the last page, which has so many, and by the limit, of so many in all
abbrev pub room_after : ℕ → ℕ → ℕ → ℕ
room_after spare page all = min spare (min (256 - page) (most_entries - all))

-- each page but the last is full, and there are no more entries than may be
pub record ArePaged (pages : List (List Told)) (page : List Told) : Type 0 where
  pub full : AreFull pages
  pub last : length page ≤ 256
  pub few : length (entries_of pages ++ page) ≤ most_entries
