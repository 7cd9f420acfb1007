-- What came of the threads of offices, and what is told of it.
use Rattle.std.specs.Prelude.{◌≡◌, ◌+◌, ◌⊎◌, ℕ, Bool, false, List, [], ◌∷◌, length, map, All, Option, None, Some}
use Rattle.std.specs.List.{flat_map, range_with_len, Contains}
use Rattle.std.specs.String.{string_bytes}
use mathlib.Core.List.{IsPrefix}
use Rattle.office_map.specs.PlanValue.{PlanValue}
use Rattle.session_meaning.specs.ProgramValue.{ProgramValue}
use Rattle.own_lock.specs.Entries.{tagged}
use Rattle.session_reports.specs.declared.form.forms.Form.{Form}
use Rattle.site_core.specs.Journals.{Site, IsLegal}
use Rattle.locked_office.specs.Calls.{Key, DeskPass, tag_of}
use Rattle.office_stations.specs.declared.fault.RunFault.{RunFault}
use Rattle.office_stations.specs.declared.fault.RunFault.TheVariants.{NoThread}
use Rattle.office_runs.specs.declared.report.Ran.{Ran}
use Rattle.office_stations.specs.Rounds.{Standing, of_office}
use Rattle.office_runs.specs.Runs.{all_finished, key_of, runs_report, HasJournals}
use Rattle.office_runs.specs.Threads.{WorkedOut, Submitted, IsNew, IsWrittenBy, most_turns}

-- An office on threads: how it stood at first and at last with who turned it, the fault that ended its turns, if one did, and whether they ended since the run was over; the pass of who submitted its sessions at first and at last, and the fault that ended this; and its journal, as it is told.
pub record Course : Type 0 where
  pub first : Standing
  pub last : Standing
  pub broke : Option RunFault
  pub over : Bool
  pub began : DeskPass
  pub ended : DeskPass
  pub stopped : Option RunFault
  pub site : Site

-- the office with the journal that is told of it
abbrev pub site_of : Course → Site
site_of c = c.site

-- the faults of who turned it, and of who submitted its sessions
abbrev pub faults_of : Course → List (Option RunFault)
faults_of c = c.broke ∷ c.stopped ∷ []

-- It came of this: turns of an office that had done nothing, at most so many, and its sessions of the list, as it took them. The journal that is told has all that who turned it wrote, a beginning of what who submitted its sessions did, and nothing else.
pub record IsCourse (tells : Bool) (programs : List ProgramValue) (c : Course) : Type 0 where
  pub first : IsNew 0 c.first.pass × ((v n : ℕ) → c.first.last v n ≡ None)
  pub worked : WorkedOut c.over c.broke tells (key_of c.site) most_turns c.first c.last
  pub began : IsNew 1 c.began
  pub submitted : Submitted c.stopped (key_of c.site) c.began c.ended (of_office c.site.me programs)
  pub legal : IsLegal c.site
  pub turns : tagged tag_of 0 c.site.entries ≡ c.last.pass.mine
  pub sessions : IsPrefix (tagged tag_of 1 c.site.entries) c.ended.mine
  pub written : IsWrittenBy (of_office c.site.me programs) c.site

-- which of these faults is told: none only where none is; one of them, or that a thread couldn't be started
abbrev pub IsToldOf : List (Option RunFault) → Option RunFault → Type 0
IsToldOf faults None = All (λ f. f ≡ None) faults
IsToldOf faults (Some fault) = (fault ≡ NoThread) ⊎ Contains faults (Some fault)

-- the offices of a plan, in its order
abbrev pub offices_of : PlanValue → List Key
offices_of p = map (λ me. (p, me)) (range_with_len 0 (length p.offices))

-- the run was over for no office before its turns were
abbrev pub AreTurned : List Course → Type 0
AreTurned = All (λ c. c.over ≡ false)

-- What is told of the offices of a plan, in its order, is what came of their threads: which of the sessions finished, and how many haven't; the fault; and, where they are wanted, the journals. Without a fault all sessions finished, or each office made all its turns.
pub record TellsCourses (form : Form) (tells : Bool) (p : PlanValue) (programs : List ProgramValue) (wanted : Bool) (ran : Ran) : Type 0 where
  pub courses : List Course
  pub are : map (λ c. key_of c.site) courses ≡ offices_of p
  pub each : All (IsCourse tells programs) courses
  pub fault : IsToldOf (flat_map faults_of courses) ran.fault
  pub ended : ran.fault ≡ None → (ran.unfinished ≡ 0) ⊎ AreTurned courses
  pub left : ran.unfinished + length (all_finished (map site_of courses)) ≡ length programs
  pub told : string_bytes ran.text ≡ runs_report form p (map site_of courses) ran.unfinished
  pub journals : HasJournals wanted (map site_of courses) (map string_bytes ran.journals.items)
