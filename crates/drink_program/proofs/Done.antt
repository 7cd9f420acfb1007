-- That what was asked for was done.
use Rattle.std.proofs.Common.{◌≡◌, ℕ, List, Option, None, Some, Result, Ok, Err, IfOk, refl, subst, arith}
use Rattle.host_files.specs.outputs.Written.{KeepsFiles}
use Rattle.command_outputs.specs.Journals.{File}
use Rattle.command_outputs.specs.declared.fault.Fault.{Fault}
use Rattle.drink_program.specs.Status.{status_of}

pub keeps : (files : Option (List File)) → KeepsFiles files files
keeps None = tt
keeps (Some files) = refl

pub ok_more : {A : Type 0} (r : Result A Fault) (P Q : A → Type 0) → ((x : A) → P x → Q x) → IfOk r P → IfOk r Q
ok_more (Ok x) P Q k h = k x h
ok_more (Err f) P Q k h = tt

-- a status of 0 is that of what was done
pub done : (r : Result ℕ Fault) (P : ℕ → Type 0) → IfOk r P → status_of r ≡ 0 → P 0
done (Ok status) P h e = subst P e h
done (Err f) P h e = absurd (omega (arith, e))
