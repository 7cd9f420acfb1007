-- The limits of frames.
use Rattle.std.specs.Prelude.{ℕ, ◌^◌}

-- The sequence space: numbers of messages, and counts of them, are below this.
abbrev pub sequence_space : ℕ
sequence_space = 2 ^ 48
