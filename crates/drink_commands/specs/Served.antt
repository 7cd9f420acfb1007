-- What `serve` writes, what its faults say, and what they leave.
use Rattle.std.specs.Prelude.{◌≡◌, ◌⊎◌, ℕ, Bool, List, [], ◌∷◌, codes, take, Option, Some, None}
use Rattle.host_files.specs.inputs.Words.{HaveFirstTexts, StandFor}
use Rattle.office_map.specs.PlanValue.{PlanValue, office_named}
use Rattle.socket_pump.specs.Wires.{Account}
use Rattle.stored_runs.specs.Keeping.{IsFound, IsNotFound, Keeping}
use Rattle.stored_runs.specs.declared.fault.KeptFault.{KeptFault}
use Rattle.stored_runs.specs.declared.fault.StoredFault.TheVariants as stored
use Rattle.serving.specs.declared.fault.ServeFault.{ServeFault}
use Rattle.serving.specs.declared.fault.ServeFault.TheVariants.{Run, InputFailed}
use Rattle.serving.specs.declared.served.Served.{Served}
use Rattle.serving.specs.Serving.{Serves}
use Rattle.session_reports.specs.declared.form.forms.Form.{Form}
use Rattle.serial_command.specs.declared.reading.input.Input.TheVariants as inputs
use Rattle.serial_command.specs.declared.reading.fault.TextFault.TheVariants.{ReadFailed}
use Rattle.serial_command.specs.reading.Plans.{IsAcceptedAs}
use Rattle.command_outputs.specs.Places.{IsOther}
use Rattle.command_outputs.specs.Fault.{IsAmong, IsFaultAt, IsOfStoredRun}
use Rattle.command_outputs.specs.declared.fault.Obstacle.{Obstacle}
use Rattle.command_outputs.specs.declared.fault.Fault.{Fault}
use Rattle.command_outputs.specs.declared.fault.Fault.TheVariants.{Text, CutShort, WriteFailed, StoreFailed}
use Rattle.drink_commands.specs.Run.{IsOfOffice, IsReached, SaysOf}
use Rattle.drink_commands.specs.Stored.{IsHad, LeavesStored}
use Rattle.drink_commands.specs.Texts.{Judges, Refuses, nothing}

-- ---- how it ended

-- at its time
abbrev pub IsServed : Served → Type 0
IsServed e = e.fault ≡ None

-- before it, for this
abbrev pub IsCutOff : ServeFault → Served → Type 0
IsCutOff cause e = e.fault ≡ Some cause

-- and that is the fault which is told
abbrev pub IsServeEnd : Served → Fault → Type 0
IsServeEnd e (CutShort cause) = IsCutOff (Run (stored.Run cause)) e
IsServeEnd e StoreFailed = IsCutOff (Run stored.StoreFailed) e
IsServeEnd e (WriteFailed cause) = IsCutOff (Run (stored.WriteFailed cause)) e
IsServeEnd e (Text (ReadFailed inputs.Sessions cause)) = IsCutOff (InputFailed cause) e
IsServeEnd e _ = ⊥

-- ---- what the store has

-- an office is as its store has it
abbrev pub IsFoundIn : Option (List ℕ) → Bool → PlanValue → ℕ → Keeping → Type 0
IsFoundIn known is_new p me kept = (bytes : List ℕ) × IsHad known is_new bytes × IsFound p me bytes kept

-- what the store has is the journal of no such office
abbrev pub IsNotFoundIn : Option (List ℕ) → Bool → PlanValue → ℕ → KeptFault → Type 0
IsNotFoundIn known is_new p me fault = (bytes : List ℕ) × IsHad known is_new bytes × IsNotFound p me bytes fault

-- ---- what is written

-- The office went on from what its store has, and served a client that asks this; and what it said, in that form, was written after what the writer held. What
-- its socket told is as Is says.
pub record HasServed (Is : Account → Type 0) (form : Form) (tells : Bool) (known : Option (List ℕ)) (is_new : Bool) (p : PlanValue) (me : ℕ) (asks : Option (List ℕ)) (e : Served) (old new : Option (List ℕ)) : Type 0 where
  pub kept : Keeping
  pub found : IsFoundIn known is_new p me kept
  pub stands : Option (List ℕ)
  pub first : Account
  pub last : Account
  pub serves : Serves Is form tells p me kept asks stands first last e old new

-- The text means a plan, and the word names an office of it, which has an address, as its neighbours have. The office served so.
pub record WritesServed (Is : PlanValue → ℕ → Account → Type 0) (form : Form) (tells : Bool) (known : Option (List ℕ)) (is_new : Bool) (plan word : List ℕ) (asks : Option (List ℕ)) (e : Served) (old new : Option (List ℕ)) : Type 0 where
  pub p : PlanValue
  pub accepted : IsAcceptedAs plan p
  pub me : ℕ
  pub office : office_named p word ≡ Some me
  pub reached : IsReached p me
  pub served : HasServed (Is p me) form tells known is_new p me asks e old new

-- so it is with the text that the word stands for, of a service that ended as P says; and the store is no input
abbrev pub ServesOffice : (PlanValue → ℕ → Account → Type 0) → Form → Bool → (List ℕ → Option (List ℕ)) → Option (List ℕ) → Option (List ℕ) → Bool → (plan word store : List ℕ) → Option (List ℕ) → (Served → Type 0) → Option (List ℕ) → Option (List ℕ) → Type 0
ServesOffice Is form tells files standard known is_new plan word store asks P old new = IsOther plan store
    × ((plan_text : List ℕ) → StandFor files standard (plan ∷ []) (plan_text ∷ []) → (e : Served) × P e × WritesServed Is form tells known is_new plan_text word asks e old new)

-- ---- what a fault says

-- what is asked can't be read
abbrev pub IsOfAsking : Fault → Type 0
IsOfAsking (Text (ReadFailed inputs.Sessions cause)) = Unit {0}
IsOfAsking _ = ⊥

abbrev pub IsOfService : Fault → Type 0
IsOfService f = IsOfStoredRun f ⊎ IsOfAsking f

-- What a fault of `serve` says of the text of PLAN, where it is given, and of OFFICE. The plan is judged first, and then the office is looked up and the addresses are looked at. Other faults
-- come where all that is as it has to be.
abbrev pub JudgesServed : List ℕ → List (List ℕ) → Fault → Type 0
JudgesServed word [] f = IsAmong (inputs.Plan ∷ []) f ⊎ (IsOfOffice f ⊎ IsOfService f)
JudgesServed word (text ∷ texts) f =
    IsFaultAt inputs.Plan (Refuses nothing text) f
    ⊎ ((p : PlanValue) × IsAcceptedAs text p × SaysOf p (Judges IsOfService (record nothing { plan = Some p }) [] texts) (office_named p word) f)

-- what it says of the words of the command, whichever of their texts are known
abbrev pub IsJudgedServed : (List ℕ → Option (List ℕ)) → Option (List ℕ) → (plan word : List ℕ) → Fault → Type 0
IsJudgedServed files standard plan word f = (texts : List (List ℕ)) (n : ℕ) → HaveFirstTexts files standard (plan ∷ []) texts n → JudgesServed word (take n texts) f

-- with the text that the word stands for what the store has is the journal of no such office
abbrev pub RefusesFound : (List ℕ → Option (List ℕ)) → Option (List ℕ) → Option (List ℕ) → Bool → (plan word : List ℕ) → KeptFault → Type 0
RefusesFound files standard known is_new plan word fault = (plan_text : List ℕ) → StandFor files standard (plan ∷ []) (plan_text ∷ [])
    → (p : PlanValue) × (me : ℕ) × IsAcceptedAs plan_text p × (office_named p word ≡ Some me) × IsNotFoundIn known is_new p me fault

-- ---- what stands where it fails

-- What a fault leaves: as one of a run with a store does; and where what is asked can't be read, the service had begun too.
abbrev pub LeavesServed : Type 0 → Type 0 → (List ℕ → Obstacle → Type 0) → Bool → (KeptFault → Type 0) → (ServeFault → Type 0) → Fault → Type 0
LeavesServed Unwritten Same Input is_new Not Stands (Text (ReadFailed inputs.Sessions cause)) = Stands (InputFailed cause)
LeavesServed Unwritten Same Input is_new Not Stands f = LeavesStored Unwritten Same Input is_new Not (λ cause. Stands (Run cause)) f
