-- What is kept in pages.
use Rattle.std.specs.Prelude.{ℕ, List}
use Rattle.office_journal.specs.pages.Told.{Told}

-- all entries, the oldest first, and how many more there is room for
pub record PagesValue : Type 0 where
  pub entries : List Told
  pub room : ℕ
