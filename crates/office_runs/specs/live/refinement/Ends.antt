-- How who worked for an office ended, and what is told of it.
use Rattle.std.specs.Prelude.{◌≡◌, ℕ, ◌++◌, Bool, List, Option, length}
use Rattle.std.specs.List.{flat_map}
use Rattle.session_meaning.specs.ProgramValue.{ProgramValue}
use Rattle.session_meaning.specs.declared.ending.Outcome.{Outcome}
use Rattle.locked_office.specs.Calls.{Key}
use Rattle.office_stations.specs.declared.fault.RunFault.{RunFault}
use Rattle.office_stations.specs.Sessions.{finished_of}
use Rattle.office_runs.specs.Runs.{key_of}
use Rattle.office_runs.specs.refinement.Reports.{Told, AddsJournal}
use Rattle.office_runs.specs.live.Courses.{Course, IsCourse}

-- an office of a run, and the sessions of the run
pub record Duty : Type 0 where
  pub key : Key
  pub programs : List ProgramValue

-- and the faults that ended its turns and its sessions, and whether its turns ended since the run was over
pub record EndView : Type 0 where
  pub duty : Duty
  pub broke : Option RunFault
  pub stopped : Option RunFault
  pub over : Bool

abbrev pub duty_of : EndView → Duty
duty_of e = e.duty

abbrev pub key_of_end : EndView → Key
key_of_end e = e.duty.key

abbrev pub programs_of_end : EndView → List ProgramValue
programs_of_end e = e.duty.programs

abbrev pub with_programs : List ProgramValue → Key → Duty
with_programs programs k = record { key = k; programs = programs }

-- what came of an office is told: its sessions that finished, so many, with these lines, and its journal, where it is wanted
pub record TellsEnd (tells : Bool) (line : Outcome → List ℕ) (e : EndView) (finished : ℕ) (old new : Told) : Type 0 where
  pub course : Course
  pub key : key_of course.site ≡ e.duty.key
  pub is : IsCourse tells e.duty.programs course
  pub broke : course.broke ≡ e.broke
  pub stopped : course.stopped ≡ e.stopped
  pub over : course.over ≡ e.over
  pub count : finished ≡ length (finished_of course.site)
  pub lines : new.lines ≡ old.lines ++ flat_map line (finished_of course.site)
  pub journal : AddsJournal old.wanted course.site old.texts new.texts
