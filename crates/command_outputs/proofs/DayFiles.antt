-- Texts that are written where there was memory for them, and what a day leaves.
use Rattle.std.proofs.Common.{◌≡◌, ℕ, List, Option, None, Some, Result, Ok, Err, IfOk, OnOk, refl, sym, ap, subst, ◌∙◌}
use Rattle.std.specs.Prelude.{All, IfSome, IsOkAnd, IsTrue}
use Rattle.office_map.specs.PlanValue.{PlanValue}
use Rattle.session_meaning.specs.ProgramValue.{ProgramValue}
use Rattle.session_programs.specs.Program.{fits}
use Rattle.frame_world.specs.Worlds.{World}
use Rattle.frame_world.specs.WorldLaws.{seated}
use Rattle.day_audits.specs.audit.Findings.{IsRecordedBy}
use Rattle.host_files.specs.outputs.Written.{KeepsFiles}
use Rattle.command_outputs.specs.Journals.{File}

-- what holds of a text that was made holds of the file
pub made : {A E X F : Type 0} (r : Result A E) (text : Result X F) (Q Adds : X → Type 0) (R : Type 0) → ((x : X) → Q x → Adds x → R) → IfOk text Q → OnOk r (IsOkAnd text Adds) → OnOk r R
made (Ok a) (Ok x) Q Adds R k q h = k x q h
made (Ok a) (Err e) Q Adds R k q h = absurd h
made (Err e) text Q Adds R k q h = tt

pub on_ok_more : {A E : Type 0} (r : Result A E) (P Q : Type 0) → (P → Q) → OnOk r P → OnOk r Q
on_ok_more (Ok x) P Q k h = k h
on_ok_more (Err e) P Q k h = tt

pub keeps : (files : Option (List File)) → KeepsFiles files files
keeps None = tt
keeps (Some files) = refl

-- ---- the world of a run's journals

pub there : (o : Option World) (P : World → Type 0) (w : World) → o ≡ Some w → IfSome o P → P w
there o P w is h = subst (λ x. IfSome x P) is h

-- it is of their plan
pub planned : (p : PlanValue) (texts : List (List ℕ)) (w : World) → IsRecordedBy p texts w → w.plan ≡ p
planned p texts w h = ap (λ (x : World). x.plan) h.leads ∙ (seated p h.events).planned

-- and so the programs fit that
pub fit_there : (p : PlanValue) (texts : List (List ℕ)) (w : World) (xs : List ProgramValue) → IsRecordedBy p texts w → All (λ x. IsTrue (fits p x)) xs → All (λ x. IsTrue (fits w.plan x)) xs
fit_there p texts w xs h fit = subst (λ q. All (λ x. IsTrue (fits q x)) xs) (sym (planned p texts w h)) fit
