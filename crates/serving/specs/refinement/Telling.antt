-- What the parts of telling say.
use Rattle.std.specs.Prelude.{◌≡◌, ◌⊎◌, ◌≤◌, ℕ, List, Option, None, Some}
use Rattle.std.specs.Io.KnownBytes.{Appends}
use Rattle.office_stations.specs.declared.fault.RunFault.TheVariants as run
use Rattle.stored_runs.specs.declared.fault.StoredFault.{StoredFault}
use Rattle.stored_runs.specs.declared.fault.StoredFault.TheVariants as stored
use Rattle.session_reports.specs.declared.form.forms.Form.{Form}
use Rattle.stored_runs.specs.Runs.{IsUntold}
use Rattle.serving.specs.declared.fault.ServeFault.{ServeFault}
use Rattle.serving.specs.declared.fault.ServeFault.TheVariants.{Run}
use Rattle.serving.specs.Serving.{IsLastLine, Unless}

-- nothing was said; or this was, and that many entries stand at least
abbrev pub SaidOrNot : Option (List ℕ) → Option (List ℕ) → List ℕ → ℕ → ℕ → Type 0
SaidOrNot old new text count stood = (new ≡ old) ⊎ (Appends old new text × (count ≤ stood))

-- the fault is told that was found first, or a new one: that there was no memory for the last line where there was none before, or that writing failed
abbrev pub IsStill : Option ServeFault → Option ServeFault → Type 0
IsStill fault result = (result ≡ fault) ⊎ (((fault ≡ None) × (result ≡ Some (Run (stored.Run run.Memory)))) ⊎ ((why : StoredFault) × (result ≡ Some (Run why)) × IsUntold why))

-- how many haven't finished is told, unless writing failed
pub record EndsTelling (form : Form) (fault : Option ServeFault) (left : ℕ) (old : Option (List ℕ)) (result : Option ServeFault) (new : Option (List ℕ)) : Type 0 where
  pub still : IsStill fault result
  pub told : Unless result ((last : List ℕ) × IsLastLine form result left last × Appends old new last)
