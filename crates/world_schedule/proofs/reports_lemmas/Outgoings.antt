-- Texts on their way to a writer, and what a fault leaves of them.
use Rattle.std.proofs.Common.{◌≡◌, ℕ, List, ◌++◌, Option, Result, Ok, Err, IfErr, OnOk}
use Rattle.std.specs.Io.KnownBytes.{Appends, Keeps, append_known}
use Rattle.std.proofs.KnownBytes.{Appends-kept, Appends-trans, Keeps-refl, append_known-grown}
use Rattle.world_schedule.specs.declared.reports.fault.TellingFault.{TellingFault}
use Rattle.world_schedule.specs.declared.reports.fault.TellingFault.TheVariants.{Memory, WriteFailed}
use Rattle.world_schedule.specs.reports.Telling.{Unwritten}

-- what is added to the text on its way comes after what the writer holds with it
pub added_more : (held : Option (List ℕ)) (old new line : List ℕ) → new ≡ old ++ line → Appends (append_known held old) (append_known held new) line
added_more held old new line added = append_known-grown (append_known held old) held old new line (Keeps-refl (append_known held old)) added

-- so it does where the text went on then
pub told_more : (held now : Option (List ℕ)) (old mid new line : List ℕ) → mid ≡ old ++ line → Keeps (append_known held mid) (append_known now new)
    → Appends (append_known held old) (append_known now new) line
told_more held now old mid new line added kept = Appends-kept (append_known held old) (append_known held mid) (append_known now new) line (added_more held old mid line added) kept

-- and where all of it went out, after what was told before
pub told_last : (start held now : Option (List ℕ)) (told rest mid new : List ℕ) → Appends start (append_known held mid) told → new ≡ mid ++ rest → Keeps (append_known held new) now
    → Appends start now (told ++ rest)
told_last start held now told rest mid new so_far added kept =
    Appends-trans start (append_known held mid) now told rest so_far (Appends-kept (append_known held mid) (append_known held new) now rest (added_more held mid new rest added) kept)

-- where P holds Q does
pub unwritten_more : (P Q : Type 0) (f : TellingFault) → (P → Q) → Unwritten P f → Unwritten Q f
unwritten_more P Q Memory k h = k h
unwritten_more P Q (WriteFailed cause) k h = tt

pub unwritten_of : {A : Type 0} (r : Result A TellingFault) (P Q : Type 0) → (P → Q) → IfErr r (Unwritten P) → IfErr r (Unwritten Q)
unwritten_of (Ok x) P Q k h = tt
unwritten_of (Err f) P Q k h = unwritten_more P Q f k h

-- what holds in any case
pub on_ok_so : {A E : Type 0} (r : Result A E) (P : Type 0) → P → OnOk r P
on_ok_so (Ok x) P h = h
on_ok_so (Err e) P h = tt
