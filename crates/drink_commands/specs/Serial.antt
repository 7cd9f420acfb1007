-- What the command `serial` writes.
use Rattle.std.specs.Prelude.{ℕ, List, Option}
use Rattle.std.specs.Io.KnownBytes.{Appends}
use Rattle.session_reports.specs.declared.form.forms.Form.{Form}
use Rattle.serial_replay.specs.Serial.{map_of, start_map}
use Rattle.serial_command.specs.Serial.{serial_report}
use Rattle.command_outputs.specs.Days.{WritesNextPlan}
use Rattle.command_outputs.specs.Journals.{File}
use Rattle.serial_command.specs.reading.Plans.{PlanAndSessions}

-- The two texts mean a plan and sessions under it, and the report of their serial run, in that form, was written after what the writer held. Where a
-- word names a file for it, the plan of the next day was written to that, which starts with the values that they leave.
pub record ReportsDay (form : Form) (plan sessions : List ℕ) (next : Option (List ℕ)) (old new : Option (List ℕ)) (kept left : Option (List File)) : Type 0 where
  pub both : PlanAndSessions plan sessions
  pub written : Appends old new (serial_report form both.p both.programs)
  pub day : WritesNextPlan next both.p (map_of (start_map both.p) both.programs) kept left
