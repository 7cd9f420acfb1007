-- The ranges of numbers in a journal.
use Rattle.std.specs.Prelude.{ℕ}

-- tags are below
abbrev pub tags : ℕ
tags = 16

-- the greatest ticket
abbrev pub last_ticket : ℕ
last_ticket = 4294967295
