-- What the parts of a run say.
use Rattle.std.specs.Prelude.{◌≡◌, ◌⊎◌, ◌≤◌, ℕ, List, length, drop, Option, Some, None}
use Rattle.std.specs.List.{flat_map}
use Rattle.std.specs.Io.KnownBytes.{Appends}
use Rattle.office_map.specs.PlanValue.{PlanValue}
use Rattle.office_journal.specs.declared.event.Entry.{Entry}
use Rattle.locked_office.specs.Calls.{Key}
use Rattle.session_reports.specs.form.Forms.{outcome_as}
use Rattle.session_reports.specs.declared.form.forms.Form.{Form}
use Rattle.office_stations.specs.declared.fault.RunFault.TheVariants as run
use Rattle.stored_runs.specs.declared.fault.StoredFault.{StoredFault}
use Rattle.stored_runs.specs.declared.fault.StoredFault.TheVariants.{Run}
use Rattle.stored_runs.specs.Runs.{finished_by, IsLastLine, IsUntold, Unless}

-- Of the sessions that have finished by the first of an office's entries, which stand, and are `first` at least, those are told that weren't before.
pub record Told (form : Form) (p : PlanValue) (k : Key) (es : List Entry) (first stood before after : ℕ) (old new : Option (List ℕ)) : Type 0 where
  pub by : ℕ
  pub from : first ≤ by
  pub stand : by ≤ stood
  pub count : after ≡ length (finished_by k es by)
  pub lines : Appends old new (flat_map (outcome_as form p) (drop before (finished_by k es by)))

-- the same, after this text
pub record TellsAfter (text : List ℕ) (form : Form) (p : PlanValue) (k : Key) (es : List Entry) (first stood before after : ℕ) (old new : Option (List ℕ)) : Type 0 where
  pub mid : Option (List ℕ)
  pub text_first : Appends old mid text
  pub told : Told form p k es first stood before after mid new

-- ---- the end

-- the fault is told that was found first, or a new one: that there was no memory for the last line where there was none before, or that writing failed
abbrev pub IsStill : Option StoredFault → Option StoredFault → Type 0
IsStill fault result = (result ≡ fault) ⊎ (((fault ≡ None) × (result ≡ Some (Run run.Memory))) ⊎ ((why : StoredFault) × (result ≡ Some why) × IsUntold why))

-- how many are left is told, unless writing failed
pub record EndsTelling (form : Form) (fault : Option StoredFault) (left : ℕ) (old : Option (List ℕ)) (result : Option StoredFault) (new : Option (List ℕ)) : Type 0 where
  pub still : IsStill fault result
  pub told : Unless result ((last : List ℕ) × IsLastLine form result left last × Appends old new last)
