-- The two windows that one end of a link keeps, and how messages move them.
use Rattle.std.specs.Prelude.{ℕ, ◌+◌, ◌-◌, max, Bool, ◌==◌, nat_le, if◌then◌else◌, List, [], ◌∷◌, ◌++◌, length, drop, get_or, set, Option, Some, None}
use Rattle.std.specs.List.{list_all}
use Rattle.bottle_values.specs.declared.version.Version.{Version}
use Rattle.frame_codec.specs.Frame.{carries}
use Rattle.frame_codec.specs.declared.message.Msg.{Msg}
use Rattle.window_link.specs.declared.arrival.Arrival.{Arrival}
use Rattle.window_link.specs.declared.arrival.Arrival.TheVariants.{Acked, Fresh, Repeat, Kept, Early}
use Rattle.window_link.specs.Limits.{most_kept}

-- ---- sending

-- Messages are numbered from 1. `acked` of them are known to be taken; those after them wait, the oldest first.
pub record Sending : Type 0 where
  pub acked : ℕ
  pub waiting : List Msg

-- whether frames of this version can carry all of these messages
abbrev pub are_carried : Version → List Msg → Bool
are_carried version ms = list_all (carries version) ms

-- the last number that was used
abbrev pub used : Sending → ℕ
used s = s.acked + length s.waiting

-- one message more waits
abbrev pub queued : Sending → Msg → Sending
queued s msg = record { acked = s.acked; waiting = s.waiting ++ msg ∷ [] }

-- the peer has taken so many; a count below the known one says nothing
abbrev pub acknowledged : Sending → ℕ → Sending
acknowledged s count =
    record { acked = max s.acked count; waiting = drop (count - s.acked) s.waiting }

-- ---- receiving

-- How many of the peer's messages were taken, in order; and what is kept of the ones after them: first what is kept of
-- the next number, then of each further one.
pub record Receiving : Type 0 where
  pub taken : ℕ
  pub kept : List (Option Msg)

-- What a message with that number is, where so many were taken: a repeat, the next one, one of the 17 after it, which
-- are kept, or early.
abbrev pub arrival : ℕ → ℕ → Msg → Arrival
arrival taken number msg =
    if nat_le number taken then Repeat
    else if number == taken + 1 then Fresh msg
    else if nat_le number (taken + most_kept) then Kept else Early

-- what is kept of the next number
abbrev pub next_kept : Receiving → Option Msg
next_kept r = get_or r.kept 0 None

-- what was kept of a number stays
abbrev pub kept_or : Option Msg → Msg → Option Msg
kept_or None msg = Some msg
kept_or (Some old) msg = Some old

abbrev pub kept_with : List (Option Msg) → ℕ → Msg → List (Option Msg)
kept_with ks i msg = set ks i (kept_or (get_or ks i None) msg)

-- a number after the taken ones is kept
abbrev pub keeping : Receiving → ℕ → Msg → Receiving
keeping r number msg = record { taken = r.taken; kept = kept_with r.kept (number - (r.taken + 1)) msg }

-- where the next number was taken, whatever is kept of it
abbrev pub kept_after : List (Option Msg) → List (Option Msg)
kept_after ks = drop 1 ks ++ None ∷ []

-- the window where the next number was taken
abbrev pub advanced : Receiving → Receiving
advanced r = record { taken = r.taken + 1; kept = kept_after r.kept }

-- the window where nothing is kept of the next number any more
abbrev pub without_next : Receiving → Receiving
without_next r = record { taken = r.taken; kept = set r.kept 0 None }

-- only the next number is taken, and those up to 18 past the taken ones are kept
abbrev pub after_message : Receiving → ℕ → Msg → Arrival → Receiving
after_message r number msg (Fresh m) = advanced r
after_message r number msg Kept = keeping r number msg
after_message r number msg Acked = r
after_message r number msg Repeat = r
after_message r number msg Early = r

-- the window after a message with that number
abbrev pub received : Receiving → ℕ → Msg → Receiving
received r number msg = after_message r number msg (arrival r.taken number msg)
