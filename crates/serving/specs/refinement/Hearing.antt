-- What hearing a client says.
use Rattle.std.specs.Prelude.{◌≡◌, ◌⊎◌, ℕ, Bool, true, false, List, [], ◌++◌, Option, IfSome}
use Rattle.std.specs.Io.KnownBytes.{Consumes, IsAtEnd}
use Rattle.office_map.specs.PlanValue.{PlanValue}
use Rattle.session_streams.specs.declared.requests.asked.Asked.{Asked}
use Rattle.session_streams.specs.requests.Bytes.{Taking, at_end, nothing_taken, taken}
use Rattle.office_stations.specs.declared.fault.RunFault.TheVariants as run
use Rattle.stored_runs.specs.declared.fault.StoredFault.TheVariants as stored
use Rattle.serving.specs.declared.fault.ServeFault.{ServeFault}
use Rattle.serving.specs.declared.fault.ServeFault.TheVariants.{Run, InputFailed}
use Rattle.serving.specs.Serving.{asked_so}

-- Nothing is there now; or this part is, and it asks for this; or the stream has ended, and this is asked at its end.
abbrev pub Comes : PlanValue → ℕ → (t u : Taking) → (ended over : Bool) → (part : List ℕ) → (came : List Asked) → (new : Option (List ℕ)) → Type 0
Comes p me t u ended over part came new =
    ((part ≡ []) × (came ≡ []) × (u ≡ t) × (over ≡ ended))
    ⊎ (((ended ≡ false) × (over ≡ false) × (u ≡ (taken p me t part).0) × (came ≡ (taken p me t part).1))
    ⊎ ((ended ≡ false) × (over ≡ true) × (part ≡ []) × (came ≡ at_end p me t) × IsAtEnd new))

-- what comes is read of the stream, and waits then
pub record Hears (p : PlanValue) (me : ℕ) (old new : Option (List ℕ)) (t u : Taking) (ended over : Bool) (before after : List Asked) : Type 0 where
  pub part : List ℕ
  pub consumed : Consumes old new part
  pub came : List Asked
  pub waits : after ≡ before ++ came
  pub comes : Comes p me t u ended over part came new

-- so much of a stream was read, and this was asked by it
pub record Heard (p : PlanValue) (me : ℕ) (input now : Option (List ℕ)) (t : Taking) (ended : Bool) (xs : List Asked) : Type 0 where
  pub bytes : List ℕ
  pub consumed : Consumes input now bytes
  pub whole : ended ≡ true → IfSome input (λ text. bytes ≡ text)
  pub stands : ended ≡ false → t ≡ (taken p me nothing_taken bytes).0
  pub asked : xs ≡ asked_so p me bytes ended

-- the stream can't be read, or memory ran out
abbrev pub IsOfHearing : ServeFault → Type 0
IsOfHearing (InputFailed cause) = Unit {0}
IsOfHearing (Run (stored.Run run.Memory)) = Unit {0}
IsOfHearing (Run fault) = ⊥
