-- The limits of pages.
use Rattle.std.specs.Prelude.{ℕ}

-- the most entries in pages: each of their places has 32 bits
abbrev pub most_entries : ℕ
most_entries = 4294967295
