-- What the commands `run` and `live` write, and what their faults say.
use Rattle.std.specs.Prelude.{◌≡◌, ◌⊎◌, ◌<◌, ◌||◌, ℕ, Bool, zero, suc, List, [], ◌∷◌, true, false, length, map, take, get_or, Option, Some, None, is_some, IfSome}
use Rattle.std.specs.String.{string_bytes}
use Rattle.std.specs.Io.KnownBytes.{Appends}
use Rattle.host_files.specs.inputs.Words.{HaveFirstTexts, StandFor}
use Rattle.office_map.specs.PlanValue.{PlanValue, office_named, office_name_of}
use Rattle.session_meaning.specs.ProgramValue.{ProgramValue}
use Rattle.socket_pump.specs.Wires.{Account}
use Rattle.office_stations.specs.Addresses.{is_without}
use Rattle.session_reports.specs.declared.form.forms.Form.{Form}
use Rattle.office_runs.specs.Runs.{TellsCourse}
use Rattle.office_runs.specs.live.Courses.{TellsCourses}
use Rattle.office_runs.specs.declared.report.Ran.{Ran}
use Rattle.office_stations.specs.declared.fault.RunFault.{RunFault}
use Rattle.command_outputs.specs.Days.{WritesDay, is_day_named}
use Rattle.command_outputs.specs.Journals.{File, WritesFiles, files_of}
use Rattle.command_outputs.specs.Places.{AreFree, IsFree, IsIn, IsObstacle}
use Rattle.serial_command.specs.reading.Plans.{IsAcceptedAs, PlanAndSessions}
use Rattle.command_outputs.specs.Fault.{IsAmong, IsFaultAt, IsOfRun}
use Rattle.drink_commands.specs.Texts.{Judges, Refuses, nothing}
use Rattle.serial_command.specs.declared.reading.input.Input.TheVariants as inputs
use Rattle.command_outputs.specs.declared.fault.Obstacle.{Obstacle}
use Rattle.command_outputs.specs.declared.fault.Fault.{Fault}
use Rattle.command_outputs.specs.declared.fault.Fault.TheVariants.{Memory, NoSuchOffice, NoAddress, NoPlace, CutShort, WriteFailed, FileFailed}

-- ---- how it ended

-- the exit status where so many sessions are left
abbrev pub status_with : ℕ → ℕ
status_with zero = 0
status_with (suc n) = 1

-- a run had all its time, and leaves so many sessions that this is the status
abbrev pub EndsWith : ℕ → Ran → Type 0
EndsWith status ran = (ran.fault ≡ None) × (status ≡ status_with ran.unfinished)

-- it was cut short for this
abbrev pub IsCutBy : RunFault → Ran → Type 0
IsCutBy cause ran = ran.fault ≡ Some cause

-- ---- which offices can run

-- this office and its neighbours have addresses
abbrev pub IsReached : PlanValue → ℕ → Type 0
IsReached p me = (v : ℕ) → v < length p.offices → is_without p me v ≡ false

-- ---- what is written

-- The two texts mean a plan and sessions under it, and the word names an office of the plan, which has an address, as its
-- neighbours have.
pub record NamedOffice (plan word sessions : List ℕ) : Type 0 where
  pub both : PlanAndSessions plan sessions
  pub me : ℕ
  pub is_office : office_named both.p word ≡ Some me
  pub is_reached : IsReached both.p me

-- The two texts mean a plan and sessions under it, and the word names an office of the plan, which has an address, as its
-- neighbours have. What is told, in that form, of so many turns of that office with its sessions among those was written after what the writer held,
-- and its journal, where a word names a file for it, to that file; and that one was free to take it, as Free says. What its socket told is as Is says.
pub record WritesOffice (Is : PlanValue → ℕ → Account → Type 0) (form : Form) (tells : Bool) (Free : PlanValue → ℕ → List ℕ → Type 0) (plan word sessions : List ℕ) (turns : ℕ) (file : Option (List ℕ)) (ran : Ran) (old new : Option (List ℕ)) (kept left : Option (List File)) : Type 0 where
  pub named : NamedOffice plan word sessions
  pub free : IfSome file (Free named.both.p named.me)
  pub told : TellsCourse (Is named.both.p named.me) form tells named.both.p named.me named.both.programs turns (is_some file) ran
  pub written : Appends old new (string_bytes ran.text)
  pub journal : WritesFiles file (λ place. map (λ text. (place, string_bytes text)) ran.journals.items) kept left

-- What is told of a run of all the plan's offices with these sessions was written after what the writer held; their journals, where a word
-- names a folder for them, to a file each; and then what the next day begins with, as these journals tell, to the files that words name for
-- it.
pub record WritesRan (p : PlanValue) (programs : List ProgramValue) (folder next unfinished : Option (List ℕ)) (ran : Ran) (old new : Option (List ℕ)) (kept left : Option (List File)) : Type 0 where
  pub written : Appends old new (string_bytes ran.text)
  pub between : Option (List File)
  pub journals : WritesFiles folder (λ place. files_of place p (λ a. get_or (map string_bytes ran.journals.items) a []) (length ran.journals.items)) kept between
  pub day : WritesDay (is_day_named next unfinished) p programs (map string_bytes ran.journals.items) next unfinished between left

-- whether the journals of a run are needed: for files of their own, or for what the next day begins with
abbrev pub are_wanted : (folder next unfinished : Option (List ℕ)) → Bool
are_wanted folder next unfinished = is_some folder || is_day_named next unfinished

-- The two texts mean a plan and sessions under it. What is told, in that form, of a run of all the plan's offices with those sessions was written, and the
-- folder that a word names for their journals was free to take them, as Free says.
pub record WritesOffices (form : Form) (tells : Bool) (Free : PlanValue → ℕ → List ℕ → Type 0) (plan sessions : List ℕ) (folder next unfinished : Option (List ℕ)) (ran : Ran) (old new : Option (List ℕ)) (kept left : Option (List File)) : Type 0 where
  pub both : PlanAndSessions plan sessions
  pub free : IfSome folder (Free both.p (length both.p.offices))
  pub told : TellsCourses form tells both.p both.programs (are_wanted folder next unfinished) ran
  pub writes : WritesRan both.p both.programs folder next unfinished ran old new kept left

-- so it is with the texts that the words stand for, of a run that ended as P says
abbrev pub RunsOffice : (PlanValue → ℕ → Account → Type 0) → Form → Bool → (List ℕ → Option (List ℕ)) → Option (List ℕ) → (plan word sessions : List ℕ) → ℕ → Option (List ℕ) → (Ran → Type 0) → Option (List ℕ) → Option (List ℕ) → Option (List File) → Option (List File) → Type 0
RunsOffice Is form tells files standard plan word sessions turns file P old new kept left = (plan_text sessions_text : List ℕ)
    → StandFor files standard (plan ∷ sessions ∷ []) (plan_text ∷ sessions_text ∷ [])
    → (ran : Ran) × P ran × WritesOffice Is form tells (IsFree files plan sessions) plan_text word sessions_text turns file ran old new kept left

-- so it is of all offices of the plan and all sessions
abbrev pub RunsOffices : Form → Bool → (List ℕ → Option (List ℕ)) → Option (List ℕ) → (plan sessions : List ℕ) → (folder next unfinished : Option (List ℕ)) → (Ran → Type 0) → Option (List ℕ) → Option (List ℕ) → Option (List File) → Option (List File) → Type 0
RunsOffices form tells files standard plan sessions folder next unfinished P old new kept left = (plan_text sessions_text : List ℕ)
    → StandFor files standard (plan ∷ sessions ∷ []) (plan_text ∷ sessions_text ∷ [])
    → (ran : Ran) × P ran × WritesOffices form tells (AreFree files plan sessions) plan_text sessions_text folder next unfinished ran old new kept left

-- ---- what a fault says

-- a fault tells that no office has this name, or memory ran out
abbrev pub IsNoOffice : Fault → Type 0
IsNoOffice Memory = Unit {0}
IsNoOffice (NoSuchOffice offices) = Unit {0}
IsNoOffice _ = ⊥

-- it tells that this office has no address, by its name, or memory ran out
abbrev pub IsUnreached : PlanValue → ℕ → Fault → Type 0
IsUnreached p v Memory = Unit {0}
IsUnreached p v (NoAddress office) = office_name_of p v ≡ Some (string_bytes office)
IsUnreached p v _ = ⊥

-- of this office and its neighbours it is the first without an address
abbrev pub IsFirstWithout : PlanValue → ℕ → ℕ → Type 0
IsFirstWithout p me v = (is_without p me v ≡ true) × ((u : ℕ) → u < v → is_without p me u ≡ false)

-- What it says of the office that a word names under a plan, if one has that name: which of it and its neighbours is the first without an address, if one is. P is
-- what it says where all is as it has to be.
abbrev pub SaysOf : PlanValue → (Fault → Type 0) → Option ℕ → Fault → Type 0
SaysOf p P None f = IsNoOffice f
SaysOf p P (Some me) f = ((v : ℕ) × IsFirstWithout p me v × IsUnreached p v f) ⊎ (IsReached p me × P f)

-- an office can't be run
abbrev pub IsOfOffice : Fault → Type 0
IsOfOffice (NoSuchOffice offices) = Unit {0}
IsOfOffice (NoAddress office) = Unit {0}
IsOfOffice _ = ⊥

-- What a fault of `run` says of the texts of its words, of which the first are given. The plan is judged first. Under it OFFICE is
-- looked up, and the addresses are looked at, before anything is said of the sessions. Other faults, of which P holds, come where all that
-- is as it has to be.
abbrev pub JudgesOffice : (Fault → Type 0) → List ℕ → List (List ℕ) → Fault → Type 0
JudgesOffice P word [] f = IsAmong (inputs.Plan ∷ inputs.Sessions ∷ []) f ⊎ (IsOfOffice f ⊎ P f)
JudgesOffice P word (text ∷ texts) f =
    IsFaultAt inputs.Plan (Refuses nothing text) f
    ⊎ ((p : PlanValue) × IsAcceptedAs text p × SaysOf p (Judges P (record nothing { plan = Some p }) (inputs.Sessions ∷ []) texts) (office_named p word) f)

-- what it says of the words of the command, whichever of their texts are known
abbrev pub IsJudgedOffice : (Fault → Type 0) → (List ℕ → Option (List ℕ)) → Option (List ℕ) → (plan word sessions : List ℕ) → Fault → Type 0
IsJudgedOffice P files standard plan word sessions f = (texts : List (List ℕ)) (n : ℕ) → HaveFirstTexts files standard (plan ∷ sessions ∷ []) texts n
    → JudgesOffice P word (take n texts) f

-- so it is of `run` without a store
abbrev pub IsJudgedRun : (List ℕ → Option (List ℕ)) → Option (List ℕ) → (plan word sessions : List ℕ) → Fault → Type 0
IsJudgedRun = IsJudgedOffice IsOfRun

-- ---- where the journals go

-- With the texts that the words stand for, a file of this name is meant for the journal of that office, and may not take it for this.
abbrev pub RefusesFile : (List ℕ → Option (List ℕ)) → Option (List ℕ) → (plan word sessions : List ℕ) → Option (List ℕ) → List ℕ → Obstacle → Type 0
RefusesFile files standard plan word sessions file name why = (plan_text sessions_text : List ℕ)
    → StandFor files standard (plan ∷ sessions ∷ []) (plan_text ∷ sessions_text ∷ [])
    → (p : PlanValue) × (me : ℕ) × IsAcceptedAs plan_text p × (office_named p word ≡ Some me) × (file ≡ Some name) × IsObstacle files plan sessions p why me name

-- a folder is meant for the journals of all offices, and may not take them for this, of a file in it or of itself
abbrev pub RefusesFolder : (List ℕ → Option (List ℕ)) → Option (List ℕ) → (plan sessions : List ℕ) → Option (List ℕ) → List ℕ → Obstacle → Type 0
RefusesFolder files standard plan sessions folder name why = (plan_text sessions_text : List ℕ)
    → StandFor files standard (plan ∷ sessions ∷ []) (plan_text ∷ sessions_text ∷ [])
    → (p : PlanValue) × IsAcceptedAs plan_text p × IfSome folder (λ place. IsIn files plan sessions p place name why)

-- ---- what stands where a run fails

-- What a fault of a run leaves: what stands, where it was cut short; nobody knows what, where the writing failed; and otherwise nothing
-- was written. Where the journals have no place, this was found.
abbrev pub Leaves : Type 0 → (List ℕ → Obstacle → Type 0) → (RunFault → Type 0) → Fault → Type 0
Leaves Unwritten Found Stands (WriteFailed cause) = Unit {0}
Leaves Unwritten Found Stands (FileFailed name cause) = Unit {0}
Leaves Unwritten Found Stands (CutShort cause) = Stands cause
Leaves Unwritten Found Stands (NoPlace name why) = Unwritten × Found (string_bytes name) why
Leaves Unwritten Found Stands _ = Unwritten

-- of a run that has begun: nothing is found
abbrev pub NoObstacle : List ℕ → Obstacle → Type 0
NoObstacle name why = ⊥
