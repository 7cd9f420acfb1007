-- What is done for the words of a command line.
use Rattle.std.specs.Prelude.{◌≡◌, ◌⊎◌, ℕ, List, [], ◌∷◌, Option, None}
use Rattle.clap.specs.Words.{IsAmong}
use Rattle.clap.specs.declared.error.kind.ErrorKind.{ErrorKind}
use Rattle.clap.specs.declared.error.kind.ErrorKind.TheVariants.{DisplayHelp, DisplayVersion}
use Rattle.command_words.specs.CommandLine.{Asks, faults_of}
use Rattle.command_words.specs.declared.command_line.Request.{Request}
use Rattle.command_words.specs.declared.command_line.Request.TheVariants.{Serial}
use Rattle.host_files.specs.inputs.Words.{StandFor}
use Rattle.session_reports.specs.declared.form.forms.Form.{Form}
use Rattle.session_reports.specs.form.Forms.{form_of}
use Rattle.serial_command.specs.Serial.{Reports}

-- the report was written, in that form, of the plan and the sessions that these words stand for
abbrev pub IsReported : (List ℕ → Option (List ℕ)) → Option (List ℕ) → Form → List ℕ → List ℕ → Option (List ℕ) → Option (List ℕ) → Type 0
IsReported files standard form plan sessions old new =
    (plan_text sessions_text : List ℕ) → StandFor files standard (plan ∷ sessions ∷ []) (plan_text ∷ sessions_text ∷ []) → Reports form plan_text sessions_text old new

-- a request for a serial run was carried out, which names no file for the next day's plan; no other is
abbrev pub IsDone : (List ℕ → Option (List ℕ)) → Option (List ℕ) → Request → Option (List ℕ) → Option (List ℕ) → Type 0
IsDone files standard (Serial plan sessions next json) old new = (next ≡ None) × IsReported files standard (form_of json) plan.now sessions.now old new
IsDone files standard _ old new = ⊥

-- what is printed for words that ask for help or for the version
abbrev pub IsShown : ErrorKind → Type 0
IsShown kind = (kind ≡ DisplayHelp) ⊎ (kind ≡ DisplayVersion)

-- The words ask for a serial run that was done, or for help or the version.
abbrev pub IsAnswered : (List ℕ → Option (List ℕ)) → Option (List ℕ) → List (List ℕ) → Option (List ℕ) → Option (List ℕ) → Type 0
IsAnswered files standard words old new =
    ((request : Request) × Asks words request × IsDone files standard request old new)
    ⊎ ((kind : ErrorKind) × IsShown kind × IsAmong kind (faults_of words))
