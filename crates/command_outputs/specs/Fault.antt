-- What a fault says.
use Rattle.std.specs.Prelude.{◌≡◌, ◌⊎◌, ℕ, List, Contains, Option, Some, None}
use Rattle.std.specs.String.{string_bytes}
use Rattle.serial_command.specs.declared.reading.input.Input.{Input}
use Rattle.serial_command.specs.declared.reading.input.Input.TheVariants as inputs
use Rattle.serial_command.specs.reading.Fault.{IsAtInput, IsOneOf, input_at}
use Rattle.command_outputs.specs.declared.fault.Why.{Why}
use Rattle.command_outputs.specs.declared.fault.Why.TheVariants.{Script, Journal, Twice}
use Rattle.command_outputs.specs.declared.fault.Obstacle.{Obstacle}
use Rattle.command_outputs.specs.declared.fault.Fault.{Fault}
use Rattle.command_outputs.specs.declared.fault.Fault.TheVariants.{Memory, Text, Refused, NoSuchOffice, NoAddress, NoJournal, NoPlace, NoRun, CutShort, WriteFailed, FileFailed, NoStore, StoreFailed, OtherSessions, NoSecrets}

-- the input whose text is refused so
abbrev pub refused_input : Why → Input
refused_input (Script r) = inputs.Script
refused_input (Journal k r) = inputs.Journal k
refused_input (Twice k) = inputs.Journal k

-- the input that is at fault
abbrev pub input_of : Fault → Option Input
input_of Memory = None
input_of (Text fault) = input_at fault
input_of (Refused why said) = Some (refused_input why)
input_of (NoSuchOffice offices) = None
input_of (NoAddress office) = Some inputs.Plan
input_of (NoJournal office) = None
input_of (NoPlace name why) = None
input_of (NoRun cause) = None
input_of (CutShort cause) = None
input_of (WriteFailed cause) = None
input_of (FileFailed name cause) = None
input_of (NoStore why) = None
input_of StoreFailed = None
input_of (OtherSessions ticket) = Some inputs.Sessions
input_of (NoSecrets why) = None

-- an input wasn't read, or its text is refused and P holds of the fault; or memory ran out
abbrev pub IsFaultAt : Input → (Fault → Type 0) → Fault → Type 0
IsFaultAt input P Memory = Unit {0}
IsFaultAt input P (Text fault) = IsAtInput input (λ f. P (Text f)) fault
IsFaultAt input P (Refused why said) = (refused_input why ≡ input) × P (Refused why said)
IsFaultAt input P _ = ⊥

-- the writing failed, of the output or of a file
abbrev pub IsWriteFault : Fault → Type 0
IsWriteFault (WriteFailed cause) = Unit {0}
IsWriteFault (FileFailed name cause) = Unit {0}
IsWriteFault _ = ⊥

-- one of these inputs wasn't read or its text is refused, or memory ran out, or the writing failed
abbrev pub IsAmong : List Input → Fault → Type 0
IsAmong inputs Memory = Unit {0}
IsAmong inputs (Text fault) = IsOneOf inputs fault
IsAmong inputs (Refused why said) = Contains inputs (refused_input why)
IsAmong inputs (WriteFailed cause) = Unit {0}
IsAmong inputs (FileFailed name cause) = Unit {0}
IsAmong inputs _ = ⊥

-- no journal is of an office
abbrev pub IsNoJournal : Fault → Type 0
IsNoJournal (NoJournal office) = Unit {0}
IsNoJournal _ = ⊥

-- a run can't begin, or there is no memory to tell of it
abbrev pub IsNoRun : Fault → Type 0
IsNoRun (NoRun cause) = Unit {0}
IsNoRun _ = ⊥

-- a run ended before its time
abbrev pub IsCutShort : Fault → Type 0
IsCutShort (CutShort cause) = Unit {0}
IsCutShort _ = ⊥

-- a file or folder can't take what a run leaves, and what P says of its name and of why; or memory ran out
abbrev pub IsPlaceFault : (List ℕ → Obstacle → Type 0) → Fault → Type 0
IsPlaceFault P Memory = Unit {0}
IsPlaceFault P (NoPlace name why) = P (string_bytes name) why
IsPlaceFault P _ = ⊥

-- what a run leaves has no place, or the office has no secrets
abbrev pub IsUnready : Fault → Type 0
IsUnready (NoPlace name why) = Unit {0}
IsUnready (NoSecrets why) = Unit {0}
IsUnready _ = ⊥

-- the store of an office can't be had, or isn't gone on from, or an append to it failed
abbrev pub IsOfStore : Fault → Type 0
IsOfStore (NoStore why) = Unit {0}
IsOfStore StoreFailed = Unit {0}
IsOfStore (OtherSessions ticket) = Unit {0}
IsOfStore _ = ⊥

-- nothing is told of a run, or it was cut short; or what it leaves has no place, or the office no secrets
abbrev pub IsOfRun : Fault → Type 0
IsOfRun f = IsNoRun f ⊎ (IsCutShort f ⊎ IsUnready f)

-- the same of a run with a store
abbrev pub IsOfStoredRun : Fault → Type 0
IsOfStoredRun f = IsOfRun f ⊎ IsOfStore f
