-- What looking for the sessions that are left says of its parts.
use Rattle.std.specs.Prelude.{◌≡◌, ◌⊎◌, ◌≤◌, ◌==◌, ℕ, true, List, [], length, drop, slice_get, Some}
use Rattle.session_meaning.specs.ProgramValue.{ProgramValue}
use Rattle.office_journal.specs.declared.event.Event.TheVariants.{Submit}
use Rattle.office_journal.specs.declared.event.Entry.{Entry}
use Rattle.office_stations.specs.Rounds.{of_office}
use Rattle.stored_runs.specs.declared.fault.KeptFault.{KeptFault}
use Rattle.stored_runs.specs.declared.fault.KeptFault.TheVariants.{Memory, Faulty, OtherSessions}
use Rattle.stored_runs.specs.Keeping.{IsFirstOther, submitted_by}

-- from one place on the office's are those from the other on, and there one is, or the list ends
pub record IsNextOf (programs : List ProgramValue) (me from next : ℕ) : Type 0 where
  pub within : next ≤ length programs
  pub same : of_office me (drop from programs) ≡ of_office me (drop next programs)
  pub here : (next ≡ length programs) ⊎ ((p : ProgramValue) × (slice_get programs next ≡ Some p) × ((p.office == me) ≡ true))

-- the first that differs is told; or memory ran out
abbrev pub IsOtherOf : List ProgramValue → List ProgramValue → KeptFault → Type 0
IsOtherOf xs ys Memory = Unit {0}
IsOtherOf xs ys (OtherSessions ticket) = IsFirstOther xs ys ticket
IsOtherOf xs ys (Faulty line why) = ⊥

-- the entry at a place submits this session; or none
abbrev pub SubmitsAt : List Entry → ℕ → ProgramValue → Type 0
SubmitsAt entries place p = (e : Entry) × (slice_get entries place ≡ Some e) × (e.event ≡ Submit p)

abbrev pub SubmitsNone : List Entry → ℕ → Type 0
SubmitsNone entries place = (e : Entry) × (slice_get entries place ≡ Some e) × (submitted_by e.event ≡ [])
