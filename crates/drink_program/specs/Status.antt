-- Exit statuses.
use Rattle.std.specs.Prelude.{◌⊎◌, ℕ, Bool, List, Option, Result, Ok, Err}
use Rattle.clap.specs.Words.{IsAmong}
use Rattle.clap.specs.declared.error.kind.ErrorKind.{ErrorKind}
use Rattle.command_words.specs.CommandLine.{Asks, faults_of}
use Rattle.command_outputs.specs.Journals.{File}
use Rattle.office_map.specs.PlanValue.{PlanValue}
use Rattle.socket_pump.specs.Wires.{Account}
use Rattle.drink_program.specs.Requests.{IsDone}
use Rattle.command_words.specs.declared.command_line.Request.{Request}
use Rattle.serial_command.specs.Answers.{IsShown}
use Rattle.command_outputs.specs.declared.fault.Fault.{Fault}

-- of a command that was done, what it answers; of one that failed, 1
abbrev pub status_of : Result ℕ Fault → ℕ
status_of (Ok status) = status
status_of (Err fault) = 1

-- The words ask for something that was done, or for help or the version.
abbrev pub IsAnswered : (Option (List ℕ) → PlanValue → ℕ → Account → Type 0) → Bool → (List ℕ → Option (List ℕ)) → Option (List ℕ) → (List ℕ → Option (List ℕ)) → List (List ℕ) → Option (List ℕ) → Option (List ℕ) → Option (List File) → Option (List File) → Type 0
IsAnswered Is tells files standard stores words old new kept left =
    ((request : Request) × Asks words request × IsDone Is tells files standard stores request 0 old new kept left)
    ⊎ ((kind : ErrorKind) × IsShown kind × IsAmong kind (faults_of words))
