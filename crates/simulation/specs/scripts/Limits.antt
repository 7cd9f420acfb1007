-- The limits of a script.
use Rattle.std.specs.Prelude.{ℕ, ◌+◌, ◌*◌}
use Rattle.office_map.specs.Limits.{most_offices}
use Rattle.site_core.specs.Limits.{most_entries}

-- the most bytes of its text
abbrev pub most_bytes : ℕ
most_bytes = 16777216

-- the most rules of one line
abbrev pub most_rules : ℕ
most_rules = 1000

-- the most steps of one line
abbrev pub most_steps : ℕ
most_steps = 1000000

-- and of one without a number: one more than the journals of all offices have room for, since each step adds an entry
abbrev pub steps_to_the_end : ℕ
steps_to_the_end = most_offices * most_entries + 1

-- the greatest ticket
abbrev pub last_ticket : ℕ
last_ticket = 4294967295
