-- The limits of an office.
use Rattle.std.specs.Prelude.{ℕ}
pub use Rattle.site_core.specs.agendas.Limits.{most_unfinished, longest_piece}
pub use Rattle.office_journal.specs.Limits.{most_entries}

-- the instructions of a piece that is done unasked
abbrev pub usual_piece : ℕ
usual_piece = 256
