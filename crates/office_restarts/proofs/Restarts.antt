-- The world that is left after a history, and what stands in it.
use Rattle.std.proofs.Common.{◌≡◌, ℕ, zero, suc, ◌+◌, ◌-◌, ◌<◌, ◌≤◌, min, List, [], ◌∷◌, ◌++◌, length, map, take, drop, Option, None, Some, refl, sym, ap, subst, ◌∙◌, arith, ⊎_elim, append-nil}
use Rattle.std.specs.Prelude.{slice_get}
use Rattle.std.proofs.lemmas.Bool.{cases_eq, cases_lt}
use Rattle.std.proofs.lemmas.List.{take_all, take-take, take-append-le, take-append-drop, append_assoc}
use Rattle.bottle_values.specs.Maps.{put}
use Rattle.bottle_values.specs.MapLaws.{put_cases, put_other, put_at, put_same}
use Rattle.frame_codec.specs.Frame.{Fields}
use Rattle.office_map.specs.PlanValue.{PlanValue}
use Rattle.office_map.specs.Consistency.{IsConsistent}
use Rattle.office_journal.specs.declared.event.Entry.{Entry}
use Rattle.frame_world.specs.declared.event.WorldEvent.{WorldEvent}
use Rattle.journal_weave.specs.Weaving.{untagged, IsWoven}
use Rattle.journal_weave.specs.Laws.{WovenIsSerial}
use Rattle.office_restarts.specs.Lives.{Lives, Happening, Handed, Stored, Left, Lost, newborn, standing, happens, leaves, after, goes_on, lived}
use Rattle.office_restarts.specs.Restarts.{IsOneWorld, RestartsAreOneWorld, WhatStoodStands}
use Rattle.office_restarts.proofs.Kept.{KeptAt, Kept, Accepted, kept_newborn, more_stored, happens_leaves, kept_after, kept_on}

-- ---- one world

-- all that the first offices have is on a schedule
record AllStored (plan : PlanValue) (journal : ℕ → List Entry) (left : List Fields) (n : ℕ) : Type 0 where
  at : ℕ → ℕ
  kept : KeptAt plan journal at left
  all : (a : ℕ) → a < n → at a ≡ length (journal a)

all_stored : (plan : PlanValue) (journal : ℕ → List Entry) (at : ℕ → ℕ) (left : List Fields) (n : ℕ) → KeptAt plan journal at left → AllStored plan journal left n
all_stored plan journal at left zero k = record { at = at; kept = k; all = λ a lt. absurd (omega (arith, lt)) }
all_stored plan journal at left (suc n) k =
    let s = all_stored plan journal at left n k in
    let whole : ℕ = length (journal n) in
    let here : put s.at n whole n ≡ whole = put_same s.at n whole in
    record {
      at = put s.at n whole;
      kept = more_stored plan journal left n (whole - s.at n) s.at (put s.at n whole) s.kept (here ∙ omega (arith, s.kept.within n)) (λ b ne. put_other s.at n whole b ne) (omega (arith, here));
      all = λ a lt. ⊎_elim
          (λ i. put_at s.at n whole a i ∙ ap (λ b. length (journal b)) (sym i))
          (λ ne. put_other s.at n whole a ne ∙ s.all a (omega (arith, lt, ne)))
          (cases_eq a n);
    }

nothing : (xs : List Entry) → ((i : ℕ) (x : Entry) → slice_get xs i ≡ Some x → ⊥) → xs ≡ []
nothing [] none = refl
nothing (x ∷ xs) none = absurd (none 0 x refl)

all_told : (plan : PlanValue) (journal : ℕ → List Entry) (left : List Fields) (s : AllStored plan journal left (length plan.offices)) (a : ℕ) → take (s.at a) (journal a) ≡ journal a
all_told plan journal left s a = ⊎_elim
    (λ lt. take_all (s.at a) (journal a) (omega (arith, s.all a lt)))
    (λ ge.
    let none : journal a ≡ [] = nothing (journal a) (λ i x e. let lt = (s.kept.own a).inside i x e in omega (arith, ge, lt)) in
    take_all (s.at a) (journal a) (omega (arith, ap length none)))
    (cases_lt a (length plan.offices))

one_world : (l : Lives) → KeptAt l.plan l.journal l.stood l.left → IsConsistent l.plan → WovenIsSerial → (events : List WorldEvent) × IsOneWorld l events
one_world l k ok serial =
    let s = all_stored l.plan l.journal l.stood l.left (length l.plan.offices) k in
    let woven : IsWoven l.plan l.journal s.kept.schedule = record {
      accepted = s.kept.has.accepted;
      as_told = λ a. s.kept.has.entries a ∙ ap (map untagged) (all_told l.plan l.journal l.left s a);
    } in
    let both = serial l.plan l.journal s.kept.schedule ok woven in
    (s.kept.schedule, record { woven = woven; sent = s.kept.sent; sessions = both.0; values = both.1 })

pub restarts_are_one_world : WovenIsSerial → RestartsAreOneWorld
restarts_are_one_world serial plan history ok =
    let k = kept_on plan (newborn plan) history (kept_newborn plan) in
    one_world (lived plan history) k.at (subst IsConsistent (sym k.planned) ok) serial

-- ---- what stands

abbrev Stays : Lives → Lives → ℕ → Type 0
Stays l l' a = (rest : List Entry) × (standing l' a ≡ standing l a ++ rest)

as_it_was : (l l' : Lives) (a : ℕ) → standing l' a ≡ standing l a → Stays l l' a
as_it_was l l' a same = ([], same ∙ sym (append-nil (standing l a)))

longer_part : {X : Type 0} (s t : ℕ) (xs : List X) → s ≤ t → (rest : List X) × (take t xs ≡ take s xs ++ rest)
longer_part s t xs le = (drop s (take t xs), sym (take-append-drop s (take t xs)) ∙ ap (λ l. l ++ drop s (take t xs)) (take-take s t xs le))

stays_accepted : (l l' : Lives) (a : ℕ) (of : WorldEvent) → ((b : ℕ) → l.stood b ≤ length (l.journal b)) → Accepted l l' of → Stays l l' a
stays_accepted l l' a of within c = subst (λ z. Stays l z a) (sym c.led) (as_it_was l (record { plan = l.plan; journal = put l.journal c.place (l.journal c.place ++ c.entry ∷ []); stood = l.stood; left = l.left }) a
    (put_cases l.journal c.place (l.journal c.place ++ c.entry ∷ []) a (λ xs. take (l.stood a) xs ≡ standing l a)
    (λ i. take-append-le (l.stood a) (l.journal c.place) (c.entry ∷ []) (subst (λ b. l.stood a ≤ length (l.journal b)) i (within a)) ∙ ap (λ b. take (l.stood a) (l.journal b)) (sym i))
    (λ ne. refl)))

stays_stored : (l : Lives) (b n a : ℕ) → ((c : ℕ) → l.stood c ≤ length (l.journal c)) → Stays l (after l (Stored b n)) a
stays_stored l b n a within =
    put_cases l.stood b (min (l.stood b + n) (length (l.journal b))) a (λ m. (rest : List Entry) × (take m (l.journal a) ≡ standing l a ++ rest))
    (λ i. longer_part (l.stood a) (min (l.stood b + n) (length (l.journal b))) (l.journal a) (let le = within b in let same = ap l.stood i in omega (arith, le, same)))
    (λ ne. ([], sym (append-nil (standing l a))))

stays_left : (l : Lives) (x : Option Entry) (a : ℕ) → Stays l (leaves l x) a
stays_left l None a = as_it_was l l a refl
stays_left l (Some x) a = as_it_was l (leaves l (Some x)) a refl

stays_lost : (l : Lives) (b n a : ℕ) → Stays l (after l (Lost b n)) a
stays_lost l b n a = as_it_was l (after l (Lost b n)) a
    (put_cases l.journal b (take (l.stood b + n) (l.journal b)) a (λ xs. take (l.stood a) xs ≡ standing l a)
    (λ i. take-take (l.stood a) (l.stood b + n) (l.journal b) (omega (arith, ap l.stood i)) ∙ ap (λ c. take (l.stood a) (l.journal c)) (sym i))
    (λ ne. refl))

pub stays_after : (l : Lives) (h : Happening) (a : ℕ) → ((b : ℕ) → l.stood b ≤ length (l.journal b)) → Stays l (after l h) a
stays_after l (Handed tag e) a within = ⊎_elim (λ same. as_it_was l (happens l tag e) a (ap (λ z. standing z a) same)) (stays_accepted l (happens l tag e) a e within) (happens_leaves l tag e)
stays_after l (Stored b n) a within = stays_stored l b n a within
stays_after l (Left b i) a within = stays_left l (slice_get (standing l b) i) a
stays_after l (Lost b n) a within = stays_lost l b n a

stays_on : (plan : PlanValue) (l : Lives) (hs : List Happening) (a : ℕ) → Kept plan l → Stays l (goes_on l hs) a
stays_on plan l [] a k = as_it_was l l a refl
stays_on plan l (h ∷ hs) a k =
    let one = stays_after l h a k.at.within in
    let more = stays_on plan (after l h) hs a (kept_after plan l h k) in
    (one.0 ++ more.0, more.1 ∙ ap (λ xs. xs ++ more.0) one.1 ∙ append_assoc (standing l a) one.0 more.0)

pub what_stood_stands : WhatStoodStands
what_stood_stands plan history more a = stays_on plan (lived plan history) more a (kept_on plan (newborn plan) history (kept_newborn plan))
