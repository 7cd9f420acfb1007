-- What is asked of a desk.
use Rattle.std.specs.Prelude.{ℕ, Option, Result, Ok, Err, if◌then◌else◌}
use Rattle.office_map.specs.PlanValue.{are_neighbours}
use Rattle.session_meaning.specs.declared.ending.Outcome.{Outcome}
use Rattle.office_journal.specs.declared.reply.Refusal.{Refusal}
use Rattle.office_journal.specs.declared.reply.Refusal.TheVariants.{NotNow}
use Rattle.site_core.specs.Readers.{outcome_with, waiting_on}
use Rattle.site_core.specs.Journals.{Site, office_of}

-- the outcome of the session with that ticket, none where it hasn't finished
abbrev pub outcome_of : Site → ℕ → Option Outcome
outcome_of s ticket = outcome_with (office_of s).agenda.outcomes ticket

-- the number of the first message that waits for a neighbour, if one waits, and how many do; or `NotNow`, where it is
-- none
abbrev pub waiting_for : Site → ℕ → Result (ℕ × ℕ) Refusal
waiting_for s v = if are_neighbours s.plan s.me v then Ok (waiting_on ((office_of s).pairs.link v)) else Err NotNow
