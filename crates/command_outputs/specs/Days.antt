-- What a day leaves, as files.
use Rattle.std.specs.Prelude.{ℕ, Bool, true, false, ◌||◌, List, [], ◌∷◌, Option, Some, None, is_some}
use Rattle.bottle_values.specs.declared.Value.{Value}
use Rattle.office_map.specs.PlanValue.{PlanValue}
use Rattle.frame_world.specs.Worlds.{World}
use Rattle.day_audits.specs.plans.NextPlans.{IsNextPlan}
use Rattle.session_meaning.specs.ProgramValue.{ProgramValue}
use Rattle.day_audits.specs.ends.DayEnds.{end_map, IsLeftText}
use Rattle.day_audits.specs.ends.FileEnds.{IsLeftOfFile}
use Rattle.day_audits.specs.audit.Findings.{IsRecordedBy}
use Rattle.host_files.specs.outputs.Written.{AddsFiles, KeepsFiles}
use Rattle.command_outputs.specs.Journals.{File}

-- where a word names a file for it, a text is written to that of which P holds; where none does, nothing is
abbrev pub WritesText : Option (List ℕ) → (List ℕ → Type 0) → Option (List File) → Option (List File) → Type 0
WritesText None P old new = KeepsFiles old new
WritesText (Some name) P old new = (text : List ℕ) × P text × AddsFiles old new ((name, text) ∷ [])

-- the plan of the next day, which starts with these values
abbrev pub WritesNextPlan : Option (List ℕ) → PlanValue → (ℕ → Value) → Option (List File) → Option (List File) → Type 0
WritesNextPlan next p m = WritesText next (IsNextPlan p m)

-- the plan of the day after a world's, which starts with the values of its end, and then the sessions that are left in it, each where a
-- word names a file for it
pub record WritesEnd (next unfinished : Option (List ℕ)) (w : World) (old new : Option (List File)) : Type 0 where
  pub between : Option (List File)
  pub plan : WritesNextPlan next w.plan (end_map w) old between
  pub sessions : WritesText unfinished (IsLeftText w) between new

-- the same with the sessions of a file that haven't finished in it
pub record WritesEndOf (programs : List ProgramValue) (next unfinished : Option (List ℕ)) (w : World) (old new : Option (List File)) : Type 0 where
  pub between : Option (List File)
  pub plan : WritesNextPlan next w.plan (end_map w) old between
  pub sessions : WritesText unfinished (IsLeftOfFile w programs) between new

-- a word names a file for what the next day begins with
abbrev pub is_day_named : (next unfinished : Option (List ℕ)) → Bool
is_day_named next unfinished = is_some next || is_some unfinished

-- where one does, that of the world was written whose record these texts are, the journals of a plan's offices; and otherwise nothing
abbrev pub WritesDay : Bool → PlanValue → List ProgramValue → List (List ℕ) → (next unfinished : Option (List ℕ)) → Option (List File) → Option (List File) → Type 0
WritesDay false p programs journals next unfinished old new = KeepsFiles old new
WritesDay true p programs journals next unfinished old new = (w : World) × IsRecordedBy p journals w × WritesEndOf programs next unfinished w old new
