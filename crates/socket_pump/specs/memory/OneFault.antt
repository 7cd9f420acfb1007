-- A wire that fails once: so many calls are passed on to the wire in it, the next one fails, and all others are passed on.
use Rattle.std.specs.Prelude.{ℕ, ◌-◌, ◌==◌, Bool, false, if◌then◌else◌, Option, None, Some}
use Rattle.socket_pump.specs.Wires.{Account, risen}

-- the next call is the one that fails, where so many are passed on before it, or where it has failed
abbrev pub is_due : Option ℕ → Bool
is_due None = false
is_due (Some n) = n == 0

-- how many are passed on before it, once there was a call more
abbrev pub after_call : Option ℕ → Option ℕ
after_call None = None
after_call (Some n) = if n == 0 then None else Some (n - 1)

-- what is told, where the wire in it tells this: one failure more, once it has failed
abbrev pub with_fault : Option ℕ → Account → Account
with_fault None a = record a { failures = risen a.failures }
with_fault (Some n) a = a
