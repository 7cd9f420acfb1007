-- When an office's last turn was, and what is known of the wait before the next one.
use Rattle.std.specs.Prelude.{ℕ, ◌+◌, ◌-◌, ◌^◌, min, Bool, true, ◌&&◌, ◌||◌, nat_lt, nat_le, cond}
use Rattle.socket_pump.specs.declared.pump.Turn.{Turn}
use Rattle.socket_pump.specs.Wires.{risen}

-- the time of the last turn, in milliseconds; whether there may be more to do at once; when the first message may be sent again that was sent since the last resend; and how many waits there were
pub record PaceView : Type 0 where
  pub time : ℕ
  pub busy : Bool
  pub due : ℕ
  pub waits : ℕ

-- before the first turn
abbrev pub first_pace : PaceView
first_pace = record { time = 0; busy = true; due = 0; waits = 0 }

-- the turn took as many datagrams as one may, or did as many rules
abbrev pub is_full : Turn → Bool
is_full t = nat_le 32 (t.taken + t.refused) || nat_le 64 t.rules

-- it was waited once more, up to this time
abbrev pub waited_to : ℕ → PaceView → PaceView
waited_to at p = record p { time = at; waits = risen p.waits }

-- the turn of this time did this: there may be more where it was full; and where no message was still to be sent again, what it sent may be after 50 milliseconds
abbrev pub noted : Turn → PaceView → PaceView
noted t p = record p { busy = is_full t; due = cond (nat_lt 0 t.sent && nat_le p.due p.time) (min (p.time + 50) (2 ^ 64 - 1)) p.due }

-- a wait, and a turn at that time, which did this
abbrev pub paced : ℕ → Turn → PaceView → PaceView
paced at t p = noted t (waited_to at p)
