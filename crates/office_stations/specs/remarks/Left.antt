-- Which sessions of an office are left, and what each waits for.
use Rattle.std.specs.Prelude.{◌≡◌, ◌≢◌, ◌<◌, ◌≤◌, ℕ, ◌+◌, ◌==◌, Bool, is_none, List, [], ◌∷◌, map, filter, Option, None, Some, if◌then◌else◌}
use Rattle.std.specs.List.{range_with_len}
use Rattle.session_programs.specs.measures.Needs.{needs_of}
use Rattle.session_meaning.specs.ProgramValue.{ProgramValue}
use Rattle.office_journal.specs.declared.event.Event.{Event}
use Rattle.office_journal.specs.declared.event.Event.TheVariants.{Submit}
use Rattle.office_journal.specs.declared.event.Entry.{Entry}
use Rattle.office_journal.specs.declared.reply.Reply.{Reply}
use Rattle.office_journal.specs.declared.reply.Reply.TheVariants.{Ticket}
use Rattle.site_core.specs.Journals.{Site, office_of}
use Rattle.site_core.specs.Readers.{outcome_with}
use Rattle.office_stations.specs.declared.remarks.left.WaitsFor.{WaitsFor}
use Rattle.office_stations.specs.declared.remarks.left.WaitsFor.TheVariants.{Records, Nothing, Session, Submission}

-- the tickets from 1 to n
abbrev pub tickets_to : ℕ → List ℕ
tickets_to n = map (λ i. i + 1) (range_with_len 0 n)

-- the session with that ticket hasn't finished
abbrev pub is_left : Site → ℕ → Bool
is_left s k = is_none (outcome_with (office_of s).agenda.outcomes k)

-- of the first n sessions of an office those that haven't finished, by their tickets
abbrev pub left_of : Site → ℕ → List ℕ
left_of s n = filter (is_left s) (tickets_to n)

-- how many tickets an office gave
abbrev pub tickets_of : Site → ℕ
tickets_of s = (office_of s).agenda.tickets

-- the program that is submitted, if the reply is this ticket
abbrev pub submitted_as : ℕ → Event → Reply → Option ProgramValue
submitted_as k (Submit p) (Ticket n) = if n == k then Some p else None
submitted_as k e r = None

abbrev pub or_else : Option ProgramValue → Option ProgramValue → Option ProgramValue
or_else (Some p) rest = Some p
or_else None rest = rest

-- the program of the session with this ticket
abbrev pub program_with : ℕ → List Entry → Option ProgramValue
program_with k [] = None
program_with k (x ∷ xs) = or_else (submitted_as k x.event x.reply) (program_with k xs)

-- the record's bottle isn't at the office
abbrev pub is_away : Site → ℕ → Bool
is_away s r = is_none ((office_of s).pairs.drinker.bottle r)

-- the records that a session needs, and whose bottles aren't at its office
abbrev pub lacks : Site → Option ProgramValue → List ℕ
lacks s None = []
lacks s (Some p) = filter (is_away s) (needs_of p.body)

-- the records that the session with this ticket needs, and whose bottles aren't at its office
abbrev pub missing : Site → ℕ → List ℕ
missing s k = lacks s (program_with k s.entries)

-- What the session with ticket k waits for that is left, where that session is left before it, if one is: to be submitted, where the office gave no such ticket; else for the one before it; or, as the first, for the records that are missing, if any are.
abbrev pub IsWaitFor : Site → ℕ → Option ℕ → WaitsFor → Type 0
IsWaitFor s k before Submission = tickets_of s < k
IsWaitFor s k before (Session j) = (k ≤ tickets_of s) × (before ≡ Some j)
IsWaitFor s k before (Records rs) = (k ≤ tickets_of s) × (before ≡ None) × (rs.items ≡ missing s k) × (missing s k ≢ [])
IsWaitFor s k before Nothing = (k ≤ tickets_of s) × (before ≡ None) × (missing s k ≡ [])
