-- The limits of links.
use Rattle.std.specs.Prelude.{ℕ, ◌-◌}
use Rattle.frame_codec.specs.Limits.{sequence_space}

-- the most messages that wait for acknowledgement
abbrev pub most_waiting : ℕ
most_waiting = 18

-- the most messages after the taken ones that have a place
abbrev pub most_kept : ℕ
most_kept = 18

-- the greatest number of a message
abbrev pub greatest : ℕ
greatest = sequence_space - 1
