-- What `run` writes with a store, and what its faults say.
use Rattle.std.specs.Prelude.{◌≡◌, ◌⊎◌, ◌≤◌, ℕ, Bool, List, [], ◌∷◌, true, false, length, Option, Some, None, Ok}
use Rattle.std.specs.String.{string_bytes}
use Rattle.host_files.specs.inputs.Words.{StandFor}
use Rattle.office_map.specs.PlanValue.{PlanValue, office_named}
use Rattle.session_meaning.specs.ProgramValue.{ProgramValue}
use Rattle.session_language.specs.Reading.{sessions_of}
use Rattle.socket_pump.specs.Wires.{Account}
use Rattle.office_stations.specs.declared.opening.OpeningFault.{OpeningFault}
use Rattle.stored_runs.specs.Keeping.{IsFound, IsNotKept, Keeping, LeavesFrom}
use Rattle.session_reports.specs.declared.form.forms.Form.{Form}
use Rattle.stored_runs.specs.Runs.{GoesOn}
use Rattle.stored_runs.specs.declared.ended.Ended.{Ended}
use Rattle.stored_runs.specs.declared.fault.KeptFault.{KeptFault}
use Rattle.stored_runs.specs.declared.fault.KeptFault.TheVariants as kept
use Rattle.stored_runs.specs.declared.fault.StoredFault.{StoredFault}
use Rattle.stored_runs.specs.declared.fault.StoredFault.TheVariants as ended
use Rattle.command_outputs.specs.Places.{IsOther}
use Rattle.serial_command.specs.reading.Plans.{IsAcceptedAs}
use Rattle.command_outputs.specs.Fault.{IsOfStoredRun}
use Rattle.drink_commands.specs.Run.{IsJudgedOffice, NamedOffice, status_with}
use Rattle.command_outputs.specs.declared.fault.Obstacle.{Obstacle}
use Rattle.command_outputs.specs.declared.fault.StoreRefusal.{StoreRefusal}
use Rattle.command_outputs.specs.declared.fault.StoreRefusal.TheVariants as refusal
use Rattle.command_outputs.specs.declared.fault.Fault.{Fault}
use Rattle.command_outputs.specs.declared.fault.Fault.TheVariants.{Memory, NoPlace, NoRun, CutShort, WriteFailed, NoStore, StoreFailed, OtherSessions}

-- ---- how it ended

-- the run had all its time, and leaves so many sessions that this is the status
abbrev pub EndsStored : ℕ → Ended → Type 0
EndsStored status e = (e.fault ≡ None) × (status ≡ status_with e.unfinished)

-- it was cut short for this
abbrev pub IsEndedBy : StoredFault → Ended → Type 0
IsEndedBy cause e = e.fault ≡ Some cause

-- and that is the fault which is told
abbrev pub IsEnd : Ended → Fault → Type 0
IsEnd e (CutShort cause) = IsEndedBy (ended.Run cause) e
IsEnd e StoreFailed = IsEndedBy ended.StoreFailed e
IsEnd e (WriteFailed cause) = IsEndedBy (ended.WriteFailed cause) e
IsEnd e _ = ⊥

-- ---- what the store has

-- What a store has first: nothing, where it is made; and else these bytes, where they are known.
abbrev pub IsHad : Option (List ℕ) → Bool → List ℕ → Type 0
IsHad known true bytes = bytes ≡ []
IsHad None false bytes = Unit {0}
IsHad (Some had) false bytes = bytes ≡ had

-- An office is as its store has it, and which of these sessions are left.
pub record IsKept (known : Option (List ℕ)) (is_new : Bool) (p : PlanValue) (me : ℕ) (programs : List ProgramValue) (k : Keeping) : Type 0 where
  pub bytes : List ℕ
  pub had : IsHad known is_new bytes
  pub found : IsFound p me bytes k
  pub left : LeavesFrom me programs k.site.entries k.next
  pub within : k.next ≤ length programs

-- ---- what is written

-- The office went on from what its store has, for so many turns with its sessions among those; and what is told of that, in that form, was written after
-- what the writer held. What its socket told is as Is says.
pub record WentOn (Is : Account → Type 0) (form : Form) (tells : Bool) (known : Option (List ℕ)) (is_new : Bool) (p : PlanValue) (me : ℕ) (programs : List ProgramValue) (turns : ℕ) (e : Ended) (old new : Option (List ℕ)) : Type 0 where
  pub kept : Keeping
  pub is_kept : IsKept known is_new p me programs kept
  pub stands : Option (List ℕ)
  pub first : Account
  pub last : Account
  pub goes_on : GoesOn Is form tells p me programs turns kept stands first last e old new

-- The two texts mean a plan and sessions under it, and the word names an office of the plan, which has an address, as its neighbours
-- have. The office went on so, with its sessions among those.
pub record WritesStored (Is : PlanValue → ℕ → Account → Type 0) (form : Form) (tells : Bool) (known : Option (List ℕ)) (is_new : Bool) (plan word sessions : List ℕ) (turns : ℕ) (e : Ended) (old new : Option (List ℕ)) : Type 0 where
  pub named : NamedOffice plan word sessions
  pub went_on : WentOn (Is named.both.p named.me) form tells known is_new named.both.p named.me named.both.programs turns e old new

-- so it is with the texts that the words stand for, of a run that ended as P says; and the store is no input
abbrev pub RunsStored : (PlanValue → ℕ → Account → Type 0) → Form → Bool → (List ℕ → Option (List ℕ)) → Option (List ℕ) → Option (List ℕ) → Bool → (plan word sessions store : List ℕ) → ℕ → (Ended → Type 0) → Option (List ℕ) → Option (List ℕ) → Type 0
RunsStored Is form tells files standard known is_new plan word sessions store turns P old new = IsOther plan store × IsOther sessions store
    × ((plan_text sessions_text : List ℕ) → StandFor files standard (plan ∷ sessions ∷ []) (plan_text ∷ sessions_text ∷ [])
    → (e : Ended) × P e × WritesStored Is form tells known is_new plan_text word sessions_text turns e old new)

-- ---- what a fault says

-- what a fault of `run` with a store says of its texts and of OFFICE
abbrev pub IsJudgedStored : (List ℕ → Option (List ℕ)) → Option (List ℕ) → (plan word sessions : List ℕ) → Fault → Type 0
IsJudgedStored = IsJudgedOffice IsOfStoredRun

-- what the store has isn't gone on from
abbrev pub IsNotHeld : Option (List ℕ) → Bool → PlanValue → ℕ → List ProgramValue → KeptFault → Type 0
IsNotHeld known is_new p me programs fault = (bytes : List ℕ) × IsHad known is_new bytes × IsNotKept p me programs bytes fault

-- Why the office doesn't get its store, or doesn't go on from it, and that the store is as it was, where it is. `Not` says what it has.
abbrev pub IsRefusal : Type 0 → Bool → (KeptFault → Type 0) → StoreRefusal → Type 0
IsRefusal Same is_new Not (refusal.Failed cause) = Unit {0}
IsRefusal Same is_new Not refusal.InUse = Unit {0}
IsRefusal Same is_new Not refusal.Missing = Same × (is_new ≡ false)
IsRefusal Same is_new Not refusal.There = is_new ≡ true
IsRefusal Same is_new Not (refusal.Faulty line why text) = Same × Not (kept.Faulty line why)

-- the same of a fault
abbrev pub IsStoreFault : Type 0 → Bool → (KeptFault → Type 0) → Fault → Type 0
IsStoreFault Same is_new Not Memory = Unit {0}
IsStoreFault Same is_new Not (NoStore why) = IsRefusal Same is_new Not why
IsStoreFault Same is_new Not (OtherSessions ticket) = Same × Not (kept.OtherSessions ticket)
IsStoreFault Same is_new Not _ = ⊥

-- the office isn't begun: it doesn't get its socket, or memory; or it doesn't get its store, or doesn't go on from it
abbrev pub IsUnbegun : Type 0 → Bool → (KeptFault → Type 0) → Fault → Type 0
IsUnbegun Same is_new Not f = ((cause : OpeningFault) × (f ≡ NoRun cause)) ⊎ IsStoreFault Same is_new Not f

-- with the texts that the words stand for what the store has isn't gone on from
abbrev pub RefusesStore : (List ℕ → Option (List ℕ)) → Option (List ℕ) → Option (List ℕ) → Bool → (plan word sessions : List ℕ) → KeptFault → Type 0
RefusesStore files standard known is_new plan word sessions fault = (plan_text sessions_text : List ℕ)
    → StandFor files standard (plan ∷ sessions ∷ []) (plan_text ∷ sessions_text ∷ [])
    → (p : PlanValue) × (me : ℕ) × (programs : List ProgramValue) × IsAcceptedAs plan_text p × (office_named p word ≡ Some me) × (sessions_of p sessions_text ≡ Ok programs)
    × IsNotHeld known is_new p me programs fault

-- ---- what stands where a run fails

-- What a fault leaves. Where the run had begun, it stands as it does then, and so it is where the writing failed; and otherwise nothing was written. Where the store is an input, or isn't this
-- office's, it is as it was.
abbrev pub LeavesStored : Type 0 → Type 0 → (List ℕ → Obstacle → Type 0) → Bool → (KeptFault → Type 0) → (StoredFault → Type 0) → Fault → Type 0
LeavesStored Unwritten Same Input is_new Not Stands (CutShort cause) = Stands (ended.Run cause)
LeavesStored Unwritten Same Input is_new Not Stands StoreFailed = Stands ended.StoreFailed
LeavesStored Unwritten Same Input is_new Not Stands (WriteFailed cause) = Stands (ended.WriteFailed cause)
LeavesStored Unwritten Same Input is_new Not Stands (NoPlace name why) = Unwritten × Same × Input (string_bytes name) why
LeavesStored Unwritten Same Input is_new Not Stands (NoStore why) = Unwritten × IsRefusal Same is_new Not why
LeavesStored Unwritten Same Input is_new Not Stands (OtherSessions ticket) = Unwritten × Same × Not (kept.OtherSessions ticket)
LeavesStored Unwritten Same Input is_new Not Stands f = Unwritten
