-- What can be asked of an office.
use Rattle.std.specs.Prelude.{ℕ, ◌+◌, ◌==◌, List, length, find, Option}
use Rattle.session_meaning.specs.declared.ending.Outcome.{Outcome}
use Rattle.window_link.specs.Links.{LinkState}

-- the outcome of the session with that ticket, none where it hasn't finished
abbrev pub outcome_with : List Outcome → ℕ → Option Outcome
outcome_with outcomes ticket = find (λ (o : Outcome). o.ticket == ticket) outcomes

-- the number of the first message that waits, if one waits, and how many do
abbrev pub waiting_on : LinkState → ℕ × ℕ
waiting_on l = (l.sending.acked + 1, length l.sending.waiting)
