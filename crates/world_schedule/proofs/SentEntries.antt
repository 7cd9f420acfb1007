-- The frames of a world are those that entries tell, and stay so as offices go on.
use Rattle.std.proofs.Common.{◌≡◌, ℕ, zero, suc, ◌-◌, ◌<◌, ◌≤◌, List, [], ◌∷◌, ◌++◌, length, map, get_or, Option, Some, None, Ok, Err, refl, sym, ap, subst, ◌∙◌, arith, ⊎_elim}
use Rattle.std.specs.Prelude.{Result, IfOk, slice_get, is_some, unwrap_or, true, All}
use Rattle.std.specs.Option.{option_and_then}
use Rattle.std.proofs.lemmas.Bool.{cases_lt}
use Rattle.std.proofs.lemmas.List.{map-append, length-map, get_or_past, get_or_read}
use Rattle.std.proofs.lemmas.Option.{slice_get-get_or, slice_get_past}
use Rattle.bottle_values.specs.ListLaws.{nothing_at}
use Rattle.std.proofs.lemmas.List.Elements.{All-nil, All-cons, All-head, All-tail, All-weaker, All-append}
use Rattle.frame_codec.specs.Frame.{Fields, IsFrame}
use Rattle.office_map.specs.PlanValue.{PlanValue}
use Rattle.office_journal.specs.declared.event.Event.{Event}
use Rattle.office_journal.specs.declared.event.Entry.{Entry}
use Rattle.office_journal.specs.declared.reply.Reply.{Reply}
use Rattle.site_core.specs.Journals.{Site}
use Rattle.frame_world.specs.declared.event.WorldEvent.{WorldEvent}
use Rattle.frame_world.specs.declared.sent.SentAt.{SentAt}
use Rattle.frame_world.specs.declared.refusal.WorldRefusal.{WorldRefusal}
use Rattle.frame_world.specs.Worlds.{World, Answer, silent, opening, run_of, frames_of, frame_at, OrMemory}
use Rattle.frame_world.specs.WorldLaws.{seated}
use Rattle.frame_world.specs.Sent.{entry_tells, told_in, told_at, sent_by}
use Rattle.frame_world.specs.SentLaws.{told_still, told_now}
use Rattle.world_schedule.specs.declared.finished.Finished as mark
use Rattle.world_schedule.specs.Records.{IsLeftBy}
use Rattle.world_schedule.specs.refinement.LeftWith.{IsLeftWith}
use Rattle.world_schedule.specs.refinement.WorldOfCode.{no_frame, frame_in, frames_in, world_in, IsWorld, IsTold, AreTold}
use Rattle.world_schedule.specs.refinement.Handing.{Hands}
use Rattle.world_schedule.proofs.WorldSteps.{Handled, Same, Grown, handled, same_map}
use Rattle.world_schedule.proofs.EventSteps.{of_ok}

-- ---- lists of entries that tell frames

-- where each tells one, these are they
are_they : (g : SentAt → Option Fields) (ms : List SentAt) (fs : List Fields) → map g ms ≡ map Some fs → (map (λ m. unwrap_or (g m) no_frame) ms ≡ fs) × All (λ m. is_some (g m) ≡ true) ms
are_they g [] [] e = (refl, All-nil (λ m. is_some (g m) ≡ true))
are_they g [] (f ∷ fs) e = absurd cc
are_they g (m ∷ ms) [] e = absurd cc
are_they g (m ∷ ms) (f ∷ fs) e =
    let here : g m ≡ Some f = cc in
    let later : map g ms ≡ map Some fs = cc in
    let rest = are_they g ms fs later in (
      ap (λ o. unwrap_or o no_frame ∷ map (λ n. unwrap_or (g n) no_frame) ms) here ∙ ap (λ l. f ∷ l) rest.0,
      All-cons (λ n. is_some (g n) ≡ true) m ms (ap is_some here) rest.1,
    )

-- ---- an event at an office

pub told_there : (plan : PlanValue) (sites : List Site) (a : ℕ) (e : Event) (result : Result Reply WorldRefusal) (sites' : List Site) → Hands sites a e result sites' → (m : SentAt) → IsTold plan sites m → told_at plan sites' m ≡ told_at plan sites m
told_there plan sites a e result sites' hands m h = go (handled (world_in plan sites [] []) a e result sites' hands)
  where
    go : Handled (world_in plan sites [] []) a e result sites' → told_at plan sites' m ≡ told_at plan sites m
    go (Same x answer kept why) = ap (λ l. told_at plan l m) kept
    go (Grown lt r o accepts answer kept is) = ap (λ l. told_at plan l m) kept ∙ told_still plan sites a e r m lt h

-- the frames that were told are told still
pub frames_stay : (plan : PlanValue) (sites : List Site) (a : ℕ) (e : Event) (result : Result Reply WorldRefusal) (sites' : List Site) (sent : List SentAt) → Hands sites a e result sites' → AreTold plan sites sent → frames_in plan sites' sent ≡ frames_in plan sites sent
frames_stay plan sites a e result sites' sent hands told =
    same_map (IsTold plan sites) (frame_in plan sites') (frame_in plan sites) (λ m h. ap (λ o. unwrap_or o no_frame) (told_there plan sites a e result sites' hands m h)) sent told

pub stay_told : (plan : PlanValue) (sites : List Site) (a : ℕ) (e : Event) (result : Result Reply WorldRefusal) (sites' : List Site) (sent : List SentAt) → Hands sites a e result sites' → AreTold plan sites sent → AreTold plan sites' sent
stay_told plan sites a e result sites' sent hands told =
    All-weaker (IsTold plan sites) (IsTold plan sites') (λ m h. ap is_some (told_there plan sites a e result sites' hands m h) ∙ h) sent told

-- what a world is with the frames that were told it is with those that are told now
pub world_stays : (plan : PlanValue) (sites : List Site) (a : ℕ) (e : Event) (result : Result Reply WorldRefusal) (sites' : List Site) (sent : List SentAt) (marks' : List mark.Finished) → Hands sites a e result sites' → AreTold plan sites sent →
    IsWorld plan sites' (frames_in plan sites sent) marks' → IsWorld plan sites' (frames_in plan sites' sent) marks' × AreTold plan sites' sent
world_stays plan sites a e result sites' sent marks' hands told world =
    (subst (λ l. IsWorld plan sites' l marks') (sym (frames_stay plan sites a e result sites' sent hands told)) world, stay_told plan sites a e result sites' sent hands told)

pub answer_stays : (plan : PlanValue) (sites : List Site) (a : ℕ) (e : Event) (result : Result Reply WorldRefusal) (sites' : List Site) (sent : List SentAt) (marks' : List mark.Finished) (v : World) (x : Answer) → Hands sites a e result sites' → AreTold plan sites sent →
    OrMemory v x result (world_in plan sites' (frames_in plan sites sent) marks') → OrMemory v x result (world_in plan sites' (frames_in plan sites' sent) marks')
answer_stays plan sites a e result sites' sent marks' v x hands told answers =
    subst (λ l. OrMemory v x result (world_in plan sites' l marks')) (sym (frames_stay plan sites a e result sites' sent hands told)) answers

-- the frame of an entry that was just made
more_told : (plan : PlanValue) (sites : List Site) (a : ℕ) (e : Event) (result : Result Reply WorldRefusal) (sites' : List Site) (r : Reply) → Hands sites a e result sites' → result ≡ Ok r →
    map (told_at plan sites') (sent_by a (length (get_or sites a (silent plan a)).entries) r) ≡ map Some (frames_of r)
more_told plan sites a e result sites' r hands is = go (handled (world_in plan sites [] []) a e result sites' hands)
  where
    go : Handled (world_in plan sites [] []) a e result sites' → map (told_at plan sites') (sent_by a (length (get_or sites a (silent plan a)).entries) r) ≡ map Some (frames_of r)
    go (Same x answer kept why) = let no : Err x ≡ Ok r = sym answer ∙ is in absurd cc
    go (Grown lt q o accepts answer kept h) =
        let same : q ≡ r = let agree : Ok q ≡ Ok r = sym answer ∙ is in cc in
        subst (λ x. map (told_at plan sites') (sent_by a (length (get_or sites a (silent plan a)).entries) x) ≡ map Some (frames_of x)) same
        (ap (λ l. map (told_at plan l) (sent_by a (length (get_or sites a (silent plan a)).entries) q)) kept ∙ told_now plan sites a e q lt)

pub frames_more : (plan : PlanValue) (sites : List Site) (a : ℕ) (e : Event) (result : Result Reply WorldRefusal) (sites' : List Site) (sent sent' : List SentAt) (r : Reply) → Hands sites a e result sites' → AreTold plan sites sent → result ≡ Ok r →
    sent' ≡ sent ++ sent_by a (length (get_or sites a (silent plan a)).entries) r → frames_in plan sites' sent' ≡ frames_in plan sites sent ++ frames_of r
frames_more plan sites a e result sites' sent sent' r hands told is more =
    let marks = sent_by a (length (get_or sites a (silent plan a)).entries) r in
    ap (frames_in plan sites') more ∙ map-append (frame_in plan sites') sent marks
    ∙ ap (λ l. l ++ map (frame_in plan sites') marks) (frames_stay plan sites a e result sites' sent hands told)
    ∙ ap (λ l. frames_in plan sites sent ++ l) (are_they (told_at plan sites') marks (frames_of r) (more_told plan sites a e result sites' r hands is)).0

pub frames_same : (plan : PlanValue) (sites : List Site) (a : ℕ) (e : Event) (result : Result Reply WorldRefusal) (sites' : List Site) (sent sent' : List SentAt) → Hands sites a e result sites' → AreTold plan sites sent → sent' ≡ sent → frames_in plan sites' sent' ≡ frames_in plan sites sent
frames_same plan sites a e result sites' sent sent' hands told same = ap (frames_in plan sites') same ∙ frames_stay plan sites a e result sites' sent hands told

pub more_are_told : (plan : PlanValue) (sites : List Site) (a : ℕ) (e : Event) (result : Result Reply WorldRefusal) (sites' : List Site) (sent sent' : List SentAt) (r : Reply) → Hands sites a e result sites' → AreTold plan sites sent → result ≡ Ok r →
    sent' ≡ sent ++ sent_by a (length (get_or sites a (silent plan a)).entries) r → AreTold plan sites' sent'
more_are_told plan sites a e result sites' sent sent' r hands told is more =
    let marks = sent_by a (length (get_or sites a (silent plan a)).entries) r in
    subst (AreTold plan sites') (sym more)
    (All-append (IsTold plan sites') sent marks (stay_told plan sites a e result sites' sent hands told) (are_they (told_at plan sites') marks (frames_of r) (more_told plan sites a e result sites' r hands is)).1)

-- what the entry is whose frame is kept
pub kept_there : (plan : PlanValue) (sites : List Site) (a : ℕ) (sent sent' : List SentAt) (result : Result Reply WorldRefusal) → IfOk result (λ r. (d : Site) → sent' ≡ sent ++ sent_by a (length (get_or sites a d).entries) r) →
    (r : Reply) → result ≡ Ok r → sent' ≡ sent ++ sent_by a (length (get_or sites a (silent plan a)).entries) r
kept_there plan sites a sent sent' result h r is = of_ok (λ (q : Reply). (d : Site) → sent' ≡ sent ++ sent_by a (length (get_or sites a d).entries) q) result h r is (silent plan a)

-- of an event that sends
pub sent_told : (plan : PlanValue) (sites : List Site) (a : ℕ) (e : Event) (result : Result Reply WorldRefusal) (sites' : List Site) (sent sent' : List SentAt) → Hands sites a e result sites' → AreTold plan sites sent →
    ((r : Reply) → result ≡ Ok r → sent' ≡ sent ++ sent_by a (length (get_or sites a (silent plan a)).entries) r) → ((x : WorldRefusal) → result ≡ Err x → sent' ≡ sent) → AreTold plan sites' sent'
sent_told plan sites a e (Ok r) sites' sent sent' hands told kept unsent = more_are_told plan sites a e (Ok r) sites' sent sent' r hands told refl (kept r refl)
sent_told plan sites a e (Err x) sites' sent sent' hands told kept unsent = subst (AreTold plan sites') (sym (unsent x refl)) (stay_told plan sites a e (Err x) sites' sent hands told)

-- ---- the k-th frame

frame_there : (g : SentAt → Option Fields) (ms : List SentAt) (k : ℕ) (m : SentAt) → All (λ n. is_some (g n) ≡ true) ms → slice_get ms k ≡ Some m → g m ≡ slice_get (map (λ n. unwrap_or (g n) no_frame) ms) k
frame_there g [] k m told at = absurd cc
frame_there g (n ∷ ms) zero m told at =
    let same : n ≡ m = cc in
    subst (λ x. g x ≡ Some (unwrap_or (g n) no_frame)) same (some_is (g n) (All-head (λ x. is_some (g x) ≡ true) n ms told))
  where
    some_is : (o : Option Fields) → is_some o ≡ true → o ≡ Some (unwrap_or o no_frame)
    some_is None h = absurd cc
    some_is (Some f) h = refl
frame_there g (n ∷ ms) (suc k) m told at = frame_there g ms k m (All-tail (λ x. is_some (g x) ≡ true) n ms told) at

pub frame_at_entry : (plan : PlanValue) (sites : List Site) (sent : List SentAt) (k : ℕ) (m : SentAt) → AreTold plan sites sent → slice_get sent k ≡ Some m → told_at plan sites m ≡ slice_get (frames_in plan sites sent) k
frame_at_entry plan sites sent k m told at = frame_there (told_at plan sites) sent k m told at

-- and past them none was sent
pub frame_past : (plan : PlanValue) (sites : List Site) (sent : List SentAt) (marks : List mark.Finished) (v : World) (k : ℕ) → world_in plan sites (frames_in plan sites sent) marks ≡ v → (k ≡ 0 → ⊥) → length sent ≤ k - 1 → None ≡ frame_at v k
frame_past plan sites sent marks v k view later past = none k later past ∙ ap (λ w. frame_at w k) view
  where
    none : (n : ℕ) → (n ≡ 0 → ⊥) → length sent ≤ n - 1 → None ≡ frame_at (world_in plan sites (frames_in plan sites sent) marks) n
    none zero h le = absurd (h refl)
    none (suc n) h le = sym (slice_get_past (frames_in plan sites sent) n (omega (arith, le, length-map sent (frame_in plan sites))))

-- an office beyond the last tells nothing
told_within : (plan : PlanValue) (sites : List Site) (m : SentAt) → IsTold plan sites m → m.office < length sites
told_within plan sites m h = ⊎_elim (λ lt. lt) (λ ge. absurd (nothing (ap (λ (s : Site). is_some (told_in s.entries m.entry)) (sym (get_or_past sites m.office (silent plan m.office) ge)) ∙ h))) (cases_lt m.office (length sites))
  where
    nothing : is_some (told_in [] m.entry) ≡ true → ⊥
    nothing e = by (slice_get [] m.entry) refl e
      where
        by : (o : Option Entry) → slice_get [] m.entry ≡ o → is_some (option_and_then entry_tells o) ≡ true → ⊥
        by None is k = cc
        by (Some x) is k = nothing_at m.entry x is

-- the entry of each mark is of an office that is there
pub office_there : (plan : PlanValue) (sites : List Site) (sent : List SentAt) (i : ℕ) (m : SentAt) → AreTold plan sites sent → i < length sent → m ≡ get_or sent i m → m.office < length sites
office_there plan sites sent i m told lt is = told_within plan sites m (subst (IsTold plan sites) (sym is) (told i m lt))

-- the k-th frame is what the entry of the k-th mark tells
pub frame_here : (plan : PlanValue) (sites : List Site) (sent : List SentAt) (marks : List mark.Finished) (v : World) (k : ℕ) (m : SentAt) (s : Site) → world_in plan sites (frames_in plan sites sent) marks ≡ v → AreTold plan sites sent → (k ≡ 0 → ⊥) → k - 1 < length sent →
    m ≡ get_or sent (k - 1) m → s ≡ get_or sites m.office s → told_in s.entries m.entry ≡ frame_at v k
frame_here plan sites sent marks v k m s view told later lt is here =
    let at : slice_get sent (k - 1) ≡ Some m = slice_get-get_or sent (k - 1) m lt ∙ ap Some (sym is) in
    let known : IsTold plan sites m = subst (IsTold plan sites) (sym is) (told (k - 1) m lt) in
    let site : s ≡ get_or sites m.office (silent plan m.office) = get_or_read sites m.office s (told_within plan sites m known) here (silent plan m.office) in
    ap (λ (x : Site). told_in x.entries m.entry) site ∙ frame_at_entry plan sites sent (k - 1) m told at ∙ counted k later ∙ ap (λ w. frame_at w k) view
  where
    counted : (n : ℕ) → (n ≡ 0 → ⊥) → slice_get (frames_in plan sites sent) (n - 1) ≡ frame_at (world_in plan sites (frames_in plan sites sent) marks) n
    counted zero h = absurd (h refl)
    counted (suc n) h = let one : suc n - 1 ≡ n = omega arith in ap (slice_get (frames_in plan sites sent)) one

-- ---- what events left

-- in the offices that they left
told_left : (plan : PlanValue) (es : List WorldEvent) (sites : List Site) (sent : List SentAt) (order : List ℕ) → IsLeftBy plan es sites sent order → map (told_at plan sites) sent ≡ map Some (run_of (opening plan) es).frames
told_left plan es sites sent order left =
    sym (ap (λ p. map (told_at p sites) sent) (seated plan es).planned) ∙ sym (ap (λ l. map (told_at (run_of (opening plan) es).plan l) sent) left.leaves) ∙ left.sends

pub left_with : (plan : PlanValue) (es : List WorldEvent) (sites : List Site) (sent : List SentAt) (order : List ℕ) → IsLeftBy plan es sites sent order → IsLeftWith plan es sites (frames_in plan sites sent) order
left_with plan es sites sent order left =
    let they = (are_they (told_at plan sites) sent (run_of (opening plan) es).frames (told_left plan es sites sent order left)).0 in
    record { leaves = left.leaves; sends = sym they; fit = subst (All IsFrame) (sym they) left.fit; finishes = left.finishes }

pub left_told : (plan : PlanValue) (es : List WorldEvent) (sites : List Site) (sent : List SentAt) (order : List ℕ) → IsLeftBy plan es sites sent order → AreTold plan sites sent
left_told plan es sites sent order left = (are_they (told_at plan sites) sent (run_of (opening plan) es).frames (told_left plan es sites sent order left)).1
