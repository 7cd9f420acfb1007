-- What the command `serial` prints.
use Rattle.std.specs.Prelude.{◌≡◌, ℕ, List, length, Option, Ok}
use Rattle.std.specs.Io.KnownBytes.{Appends}
use Rattle.bottle_values.specs.declared.Value.{Value}
use Rattle.office_map.specs.PlanValue.{PlanValue}
use Rattle.serial_command.specs.reading.Plans.{IsAcceptedAs, PlanAndSessions}
use Rattle.session_meaning.specs.ProgramValue.{ProgramValue}
use Rattle.session_language.specs.Reading.{sessions_of}
use Rattle.serial_replay.specs.Serial.{ListsValues, outcomes_of, map_of, start_map}
use Rattle.session_reports.specs.declared.form.forms.Form.{Form}
use Rattle.session_reports.specs.form.Forms.{report_as}

-- the report of the programs' serial run from the plan's values, in that form
abbrev pub serial_report : Form → PlanValue → List ProgramValue → List ℕ
serial_report f p programs = report_as f p (outcomes_of (start_map p) programs) (map_of (start_map p) programs)

-- The two texts mean a plan and sessions under it, and this is the report of their serial run, in that form.
pub record IsReportOf (form : Form) (plan sessions report : List ℕ) : Type 0 where
  pub both : PlanAndSessions plan sessions
  pub is_report : report ≡ serial_report form both.p both.programs

-- The two texts mean that plan and sessions under it. This is the report of their serial run, in that form, and these are the values that they leave.
pub record IsEndOf (form : Form) (plan sessions : List ℕ) (p : PlanValue) (values : List Value) (report : List ℕ) : Type 0 where
  pub programs : List ProgramValue
  pub is_plan : IsAcceptedAs plan p
  pub are_sessions : sessions_of p sessions ≡ Ok programs
  pub is_report : report ≡ serial_report form p programs
  pub are_values : ListsValues values (length p.records) (map_of (start_map p) programs)

-- That report was written after what the writer held.
abbrev pub Reports : Form → List ℕ → List ℕ → Option (List ℕ) → Option (List ℕ) → Type 0
Reports form plan sessions old new = (report : List ℕ) × IsReportOf form plan sessions report × Appends old new report
