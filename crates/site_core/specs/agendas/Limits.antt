-- The limits of an agenda.
use Rattle.std.specs.Prelude.{ℕ}

-- the most sessions that are submitted and unfinished
abbrev pub most_unfinished : ℕ
most_unfinished = 64

-- the most instructions of one piece of work
abbrev pub longest_piece : ℕ
longest_piece = 1000
