-- The limits of programs.
use Rattle.std.specs.Prelude.{ℕ, suc}

-- statements of a session
abbrev pub most_statements : ℕ
most_statements = 256

-- what a session may cost
abbrev pub most_cost : ℕ
most_cost = 10000

-- bytes of a session's canonical text, where each name of an office or a record counts 16
abbrev pub most_bytes : ℕ
most_bytes = 16384

-- records that a session names
abbrev pub most_records : ℕ
most_records = 16

-- variables of a session
abbrev pub most_variables : ℕ
most_variables = 32

-- values that a session gives
abbrev pub most_gives : ℕ
most_gives = 64

-- how many blocks may stand in one another
abbrev pub most_blocks : ℕ
most_blocks = 8

-- how often a `repeat` may turn
abbrev pub most_turns : ℕ
most_turns = 10000

-- how deep an expression may be
abbrev pub most_depth : ℕ
most_depth = 32

-- codes of a `require` are below this
abbrev pub codes_end : ℕ
codes_end = 65536

-- one past the most bytes: as far as sizes are counted
abbrev pub past_bytes : ℕ
past_bytes = suc most_bytes
