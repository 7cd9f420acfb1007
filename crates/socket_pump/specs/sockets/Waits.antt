-- How it was waited at a socket, and what it tells once that failed.
use Rattle.std.specs.Prelude.{ℕ}
use Rattle.socket_pump.specs.Wires.{Account, risen}
use Rattle.socket_pump.specs.declared.sockets.waits.Waits.{Waits}

-- it wasn't waited at the socket yet
abbrev pub no_waits : Waits
no_waits = record { count = 0; last = 0 }

-- it was waited once more, for so many milliseconds at most
abbrev pub one_more : ℕ → Waits → Waits
one_more most w = record { count = risen w.count; last = most }

-- what a wire tells once a call more failed
abbrev pub failed : Account → Account
failed a = record a { failures = risen a.failures }
