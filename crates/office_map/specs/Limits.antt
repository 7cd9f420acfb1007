-- The limits of plans.
use Rattle.std.specs.Prelude.{ℕ}

-- bytes of a plan's text
abbrev pub most_text : ℕ
most_text = 262144

-- offices of a plan
abbrev pub most_offices : ℕ
most_offices = 16

-- records of a pair: so an office has at most 128 records
abbrev pub most_pair_records : ℕ
most_pair_records = 8
