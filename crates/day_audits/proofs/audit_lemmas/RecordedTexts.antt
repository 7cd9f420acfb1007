-- The journals that texts are, one text after the other; and the world that is found of them.
use Rattle.std.proofs.Common.{◌≡◌, ℕ, ◌+◌, ◌<◌, ◌≤◌, List, [], ◌∷◌, ◌++◌, length, map, take, get_or, Option, None, Some, sym, ap, subst, ◌∙◌, take_all, drop, append_assoc, inr}
use Rattle.std.specs.Prelude.{IfNone, IfSome}
use Rattle.std.proofs.lemmas.List.{map-append, take-append-drop, take_more}
use Rattle.office_map.specs.PlanValue.{PlanValue}
use Rattle.frame_world.specs.Worlds.{World}
use Rattle.session_reports.specs.declared.form.forms.Form.{Form}
use Rattle.day_audits.specs.audit.Gathered.{Gathered}
use Rattle.day_audits.specs.audit.Following.{Gathers, TellsOf}
use Rattle.day_audits.specs.declared.audit.fault.GatherFault.{GatherFault}
use Rattle.day_audits.specs.audit.Gathering.{IsRefusedAt}
use Rattle.day_audits.specs.audit.Findings.{AreNoRecord, IsRecordedBy, TellsUnwoven, TellsWoven}

-- one text more
pub one_gathered : {X : Type 0} (f : X → List ℕ) (p : PlanValue) (xs : List X) (i : ℕ) (x : X) (old new : Gathered) → i < length xs → get_or xs i x ≡ x → Gathers p (map f (take i xs)) old
    → ((plan : PlanValue) (texts : List (List ℕ)) → Gathers plan texts old → Gathers plan (texts ++ f x ∷ []) new) → Gathers p (map f (take (i + 1) xs)) new
one_gathered f p xs i x old new lt is so_far more =
    subst (λ l. Gathers p (map f l) new) (sym (take_more xs i x lt ∙ ap (λ y. take i xs ++ y ∷ []) is))
    (subst (λ l. Gathers p l new) (sym (map-append f (take i xs) (x ∷ []))) (more p (map f (take i xs)) so_far))

-- all of them
pub all_gathered : {X : Type 0} (f : X → List ℕ) (p : PlanValue) (xs : List X) (i : ℕ) (g : Gathered) → length xs ≤ i → Gathers p (map f (take i xs)) g → Gathers p (map f xs) g
all_gathered f p xs i g le h = subst (λ l. Gathers p (map f l) g) (take_all i xs le) h

pub if_some : {A : Type 0} (o : Option A) (P : A → Type 0) (x : A) → o ≡ Some x → IfSome o P → P x
if_some o P x is h = subst (λ o. IfSome o P) is h

-- the world that is told of is the one whose record they are
pub recorded_so : (f : Form) (p : PlanValue) (texts : List (List ℕ)) (g : Gathered) (text : List ℕ) (found : Option World) → Gathers p texts g → IfSome found (λ w. TellsOf (TellsWoven f w) g text) → IfSome found (IsRecordedBy p texts)
recorded_so f p texts g text None h told = tt
recorded_so f p texts g text (Some w) h told =
    let it = told p texts h in
    record { journals = it.0; are_journals = it.1; events = it.2.events; woven = it.2.woven; leads = it.2.leads }

-- a text with those before it and those behind it
parted : {X : Type 0} (f : X → List ℕ) (xs : List X) (i : ℕ) (x : X) → i < length xs → get_or xs i x ≡ x → map f xs ≡ map f (take i xs) ++ f x ∷ map f (drop (i + 1) xs)
parted f xs i x lt is =
    ap (map f) (sym (take-append-drop (i + 1) xs) ∙ ap (λ l. l ++ drop (i + 1) xs) (take_more xs i x lt ∙ ap (λ y. take i xs ++ y ∷ []) is))
    ∙ map-append f (take i xs ++ x ∷ []) (drop (i + 1) xs)
    ∙ ap (λ l. l ++ map f (drop (i + 1) xs)) (map-append f (take i xs) (x ∷ []))
    ∙ append_assoc (map f (take i xs)) (f x ∷ []) (map f (drop (i + 1) xs))

-- one that is refused where those before it are gathered is refused at its place among all
pub refused_among : {X : Type 0} (f : X → List ℕ) (p : PlanValue) (xs : List X) (i : ℕ) (x : X) (g : Gathered) (fault : GatherFault) → i < length xs → get_or xs i x ≡ x → Gathers p (map f (take i xs)) g
    → ((plan : PlanValue) (before after : List (List ℕ)) → Gathers plan before g → IsRefusedAt plan (before ++ f x ∷ after) (length before) fault) → (place : ℕ) × (fault : GatherFault) × IsRefusedAt p (map f xs) place fault
refused_among f p xs i x g fault lt is so_far refused =
    (length (map f (take i xs)), fault, subst (λ l. IsRefusedAt p l (length (map f (take i xs))) fault) (sym (parted f xs i x lt is)) (refused p (map f (take i xs)) (map f (drop (i + 1) xs)) so_far))

-- where none is told of, they are the record of none
pub unrecorded_so : (f : Form) (p : PlanValue) (texts : List (List ℕ)) (g : Gathered) (text : List ℕ) (found : Option World) → Gathers p texts g → IfNone found (TellsOf (TellsUnwoven f) g text) → IfNone found (AreNoRecord p texts)
unrecorded_so f p texts g text None h told =
    let it = told p texts h in
    inr (it.0, it.1, it.2.never)
unrecorded_so f p texts g text (Some w) h told = tt
