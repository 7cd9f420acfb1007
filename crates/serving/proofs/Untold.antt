-- What is told of what stands.
use Rattle.std.proofs.Common.{◌≡◌, ◌⊎◌, ℕ, ◌≤◌, Bool, List, length, Option, Some, inl, inr, sym, ap, subst, arith, length-append}
use Rattle.std.specs.Io.KnownBytes.{Appends}
use mathlib.Core.List.{IsPrefix}
use Rattle.office_journal.specs.declared.event.Entry.{Entry}
use Rattle.stored_runs.specs.declared.fault.StoredFault.{StoredFault}
use Rattle.stored_runs.specs.declared.fault.StoredFault.TheVariants.{Run, StoreFailed, WriteFailed}
use Rattle.stored_runs.specs.Runs as stored
use Rattle.stored_runs.specs.Runs.{IsFaultOf, IsUntold}
use Rattle.serving.specs.declared.fault.ServeFault.TheVariants as serve
use Rattle.serving.specs.Serving.{Unless}
use Rattle.serving.specs.refinement.Telling.{SaidOrNot}

-- no entry less stands than before
pub later_of : (es fs : List Entry) (n m : ℕ) → n ≤ length es → IsPrefix es fs → (m ≡ n) ⊎ (m ≡ length fs) → n ≤ m
later_of es fs n m within p (inl same) = omega (arith, same)
later_of es fs n m within p (inr now) = omega (arith, now, within, ap length p.1, length-append es p.0)

pub stood_within : (es fs : List Entry) (n m : ℕ) → n ≤ length es → IsPrefix es fs → (m ≡ n) ⊎ (m ≡ length fs) → m ≤ length fs
stood_within es fs n m within p (inl same) = omega (arith, same, within, ap length p.1, length-append es p.0)
stood_within es fs n m within p (inr now) = omega (arith, now)

-- where writing failed, no more is known
pub untold_fault : (failed : Bool) (f : StoredFault) → IsUntold f → IsFaultOf failed (Some f)
untold_fault failed (WriteFailed cause) h = tt
untold_fault failed (Run why) h = absurd h
untold_fault failed StoreFailed h = absurd h

pub unknown : (f : StoredFault) (P : Type 0) → IsUntold f → Unless (Some (serve.Run f)) P
unknown (WriteFailed cause) P h = tt
unknown (Run why) P h = absurd h
unknown StoreFailed P h = absurd h

pub run_unless : (f : StoredFault) (P Q : Type 0) → (P → Q) → stored.Unless (Some f) P → Unless (Some (serve.Run f)) Q
run_unless (Run why) P Q g h = g h
run_unless StoreFailed P Q g h = g h
run_unless (WriteFailed cause) P Q g h = tt

-- it was said before
pub said_before : (old mid new : Option (List ℕ)) (text : List ℕ) (n stood : ℕ) → Appends old mid text → n ≤ stood → new ≡ mid → SaidOrNot old new text n stood
said_before old mid new text n stood wrote le same = inr (subst (λ x. Appends old x text) (sym same) wrote, le)
