-- The limits of texts of sessions, and of the sessions in them.
use Rattle.std.specs.Prelude.{ℕ, suc}
pub use Rattle.session_programs.specs.Limits.{most_statements, most_cost, most_bytes, most_records, most_variables, most_gives, most_blocks, most_turns, most_depth, codes_end}

-- bytes of a text
abbrev pub most_text : ℕ
most_text = 1048576

-- sessions in a text
abbrev pub most_sessions : ℕ
most_sessions = 1024

-- one past the greatest depth: as far as depths are counted
abbrev pub past_depth : ℕ
past_depth = suc most_depth
