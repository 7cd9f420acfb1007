-- What the command `sim` writes.
use Rattle.std.specs.Prelude.{ℕ, List, Option}
use Rattle.std.specs.Io.KnownBytes.{Appends}
use Rattle.session_reports.specs.declared.form.forms.Form.{Form}
use Rattle.frame_world.specs.Worlds.{World, opening}
use Rattle.simulation.specs.scripts.Script.{Act, IsScript}
use Rattle.simulation.specs.scripts.Runs.{run_of}
use Rattle.simulation.specs.scripts.Transcript.{transcript, IsSerialRun}
use Rattle.command_outputs.specs.Days.{WritesEnd}
use Rattle.command_outputs.specs.Journals.{File, WritesFiles, files_of_world}
use Rattle.serial_command.specs.reading.Plans.{PlanAndSessions}

-- Where a word names a folder for them, the journals of all offices of a world were written to a file each; and then what it leaves for
-- the next day, where words name files for that.
pub record LeavesFiles (folder next unfinished : Option (List ℕ)) (w : World) (kept left : Option (List File)) : Type 0 where
  pub between : Option (List File)
  pub journals : WritesFiles folder (λ place. files_of_world place w) kept between
  pub day : WritesEnd next unfinished w between left

-- The three texts mean a plan, sessions under it and a script of them, and the transcript of its run, in that form, was written after what
-- the writer held. What its report tells is a serial run. What the world at its end leaves in files was written to those that words
-- name.
pub record Simulates (form : Form) (plan sessions script : List ℕ) (folder next unfinished : Option (List ℕ)) (old new : Option (List ℕ)) (kept left : Option (List File)) : Type 0 where
  pub both : PlanAndSessions plan sessions
  pub acts : List Act
  pub is_script : IsScript both.p both.programs script acts
  pub written : Appends old new (transcript form both.p acts)
  pub serial : IsSerialRun (run_of (opening both.p) acts)
  pub files : LeavesFiles folder next unfinished (run_of (opening both.p) acts) kept left
