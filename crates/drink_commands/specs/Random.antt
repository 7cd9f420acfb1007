-- What the command `random` writes.
use Rattle.std.specs.Prelude.{ℕ, List, Option}
use Rattle.std.specs.Io.KnownBytes.{Appends}
use Rattle.session_reports.specs.declared.form.forms.Form.{Form}
use Rattle.frame_world.specs.Worlds.{World}
use Rattle.simulation.specs.random.Runs.{Tells}
use Rattle.command_outputs.specs.Days.{WritesEndOf}
use Rattle.command_outputs.specs.Journals.{File}
use Rattle.serial_command.specs.reading.Plans.{PlanAndSessions}

-- The two texts mean a plan and sessions under it, and the report, in that form, of a run of these with this loss and as many steps, whichever were drawn, was
-- written after what the writer held; and then what its world leaves for the next day, where words name files for it.
pub record TellsRun (form : Form) (plan sessions : List ℕ) (loss steps : ℕ) (next unfinished : Option (List ℕ)) (old new : Option (List ℕ)) (kept left : Option (List File)) : Type 0 where
  pub both : PlanAndSessions plan sessions
  pub world : World
  pub printed : List ℕ
  pub told : Tells form both.p both.programs loss steps world printed
  pub written : Appends old new printed
  pub day : WritesEndOf both.programs next unfinished world kept left
