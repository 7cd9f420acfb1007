-- The world that the code keeps, after an event.
use Rattle.std.proofs.Common.{◌≡◌, ◌≢◌, ℕ, ◌<◌, Bool, true, false, cond, List, [], ◌∷◌, ◌++◌, length, map, get_or, set, Some, Ok, Err, ◌⊎◌, inl, inr, refl, sym, ap, subst, ◌∙◌, arith, ⊎_elim, append-nil}
use Rattle.std.specs.Prelude.{Result, IsOk, nat_le, find, is_some, unwrap_or, All}
use Rattle.std.specs.Option.{option_or}
use Rattle.std.proofs.lemmas.Bool.{lt-ltb, le-ltb, cases_eq}
use Rattle.std.proofs.lemmas.List.{length-set, set-get_or, get_or-set_same, get_or-set_other, map-append}
use Rattle.std.proofs.lemmas.List.Elements.{All-nil, All-cons, All-weaker, All-head, All-tail, All-append}
use Rattle.std.proofs.lemmas.List.Folds.{find-append}
use Rattle.frame_codec.specs.Frame.{Fields, IsFrame}
use Rattle.office_map.specs.PlanValue.{PlanValue}
use Rattle.office_journal.specs.declared.event.Event.{Event}
use Rattle.office_journal.specs.declared.reply.Reply.{Reply}
use Rattle.office_journal.specs.declared.reply.Refusal as offices
use Rattle.office_journal.specs.declared.reply.Refusal.TheVariants as refused
use Rattle.site_core.specs.Offices.{Office}
use Rattle.site_core.specs.Offices as answers
use Rattle.site_core.specs.Limits.{most_entries}
use Rattle.site_core.specs.Journals.{Site, office_of, noted, recorded, step}
use Rattle.frame_world.specs.declared.event.WorldEvent.{WorldEvent}
use Rattle.frame_world.specs.declared.refusal.WorldRefusal.{WorldRefusal}
use Rattle.frame_world.specs.declared.refusal.WorldRefusal.TheVariants as refusal
use Rattle.frame_world.specs.Worlds.{World, Answer, Finished, silent, site_at, office_at, frames_of, finished_by, told, handed, happens, run_of, opening, OrMemory}
use Rattle.frame_world.specs.Headline.{IsReached}
use Rattle.world_schedule.specs.declared.finished.Finished as mark
use Rattle.world_schedule.specs.Readers.{listed_as}
use Rattle.world_schedule.specs.refinement.WorldOfCode.{finishes, no_session, finished_of, has_ticket, found_in, finished_in, world_in, IsSiteOf, IsKnown, IsWorld}
use Rattle.world_schedule.specs.refinement.Handing.{Hands, Nobody, Asked, passed_on}
use Rattle.frame_world.specs.TicketLaws.{finished_at}
use Rattle.world_schedule.proofs.FinishedSessions.{finished_noted, found_some, IsFoundIn}
use Rattle.world_schedule.proofs.SiteSteps.{still_legal, Stepped, Refused, OutOfMemory, Accepted, stepped}

-- an event that an office accepts, and what it leaves
abbrev pub grown : World → ℕ → Event → Reply → World
grown w a e r = record {
  plan = w.plan;
  sites = set w.sites a (noted (site_at w a) 0 e r);
  frames = w.frames ++ frames_of r;
  finished = w.finished ++ finished_by a (office_at w a).agenda.current e;
}

-- the office of the site accepts the event
abbrev pub Accepts : Site → Event → Reply → Office → Type 0
Accepts s e r o = answers.answer s.plan s.me (office_of s) e ≡ Ok (r, o)

-- nothing changed, by the definition or for want of memory where the event is accepted; or the event is noted
pub data Handled (w : World) (a : ℕ) (e : Event) (result : Result Reply WorldRefusal) (sites' : List Site) : Type 0 where
  Same : (x : WorldRefusal) (answer : result ≡ Err x) (kept : sites' ≡ w.sites) (why : ((x ≡ refusal.Office refused.Memory) × IsOk (handed w a e).0) ⊎ (handed w a e ≡ (Err x, w))) → Handled w a e result sites'
  Grown : (within : a < length w.sites) (r : Reply) (o : Office) (accepts : Accepts (site_at w a) e r o) (answer : result ≡ Ok r) (kept : sites' ≡ set w.sites a (noted (site_at w a) 0 e r))
      (is : handed w a e ≡ (Ok r, grown w a e r)) → Handled w a e result sites'

there : (w : World) (a : ℕ) (e : Event) (x : Result Reply offices.Refusal × Site) → a < length w.sites → step (site_at w a) 0 e ≡ x → handed w a e ≡ told w a e x
there w a e x lt is = ap (λ b. cond {A = Answer} b (told w a e (step (site_at w a) 0 e)) (Err refusal.NoOffice, w)) (lt-ltb a (length w.sites) lt) ∙ ap (told w a e) is

-- a world tells that an office accepts
told_ok : (w : World) (a : ℕ) (e : Event) (x : Result Reply offices.Refusal × Site) → IsOk x.0 → IsOk (told w a e x).0
told_ok w a e (Ok r, s) ok = ok
told_ok w a e (Err r, s) ok = ok

pub handled : (w : World) (a : ℕ) (e : Event) (result : Result Reply WorldRefusal) (sites' : List Site) → Hands w.sites a e result sites' → Handled w a e result sites'
handled w a e result sites' (Nobody beyond tells kept) = Same refusal.NoOffice tells kept (inr (ap (λ b. cond {A = Answer} b (told w a e (step (site_at w a) 0 e)) (Err refusal.NoOffice, w)) (le-ltb a (length w.sites) beyond)))
handled w a e result sites' (Asked within answer site tells steps kept) = go (stepped (site_at w a) e answer site (steps (silent w.plan a)))
  where
    unchanged : site ≡ site_at w a → sites' ≡ w.sites
    unchanged same = kept ∙ ap (set w.sites a) same ∙ set-get_or w.sites a (silent w.plan a)

    go : Stepped (site_at w a) e answer site → Handled w a e result sites'
    go (Refused r is same steps_so) = Same (refusal.Office r) (tells ∙ ap passed_on is) (unchanged same) (inr (there w a e (Err r, site_at w a) within steps_so))
    go (OutOfMemory is same ok) = Same (refusal.Office refused.Memory) (tells ∙ ap passed_on is) (unchanged same)
        (inl (refl, subst (λ (y : Answer). IsOk y.0) (sym (there w a e (step (site_at w a) 0 e) within refl)) (told_ok w a e (step (site_at w a) 0 e) ok)))
    go (Accepted r o accepts is same steps_so) = Grown within r o accepts (tells ∙ ap passed_on is) (kept ∙ ap (set w.sites a) same) (there w a e (Ok r, noted (site_at w a) 0 e r) within steps_so)

-- the event is noted only where the journal has room for it
has_room : (w : World) (a : ℕ) (e : Event) (r : Reply) (o : Office) → a < length w.sites → Accepts (site_at w a) e r o → handed w a e ≡ (Ok r, grown w a e r) → nat_le most_entries (length (site_at w a).entries) ≡ false
has_room w a e r o lt accepts is = go (nat_le most_entries (length (site_at w a).entries)) refl
  where
    two_answers : (x : WorldRefusal) (v : World) → ◌≡◌ {A = Answer} (Err x, v) (Ok r, grown w a e r) → ⊥
    two_answers x v h = let answers_agree : Err x ≡ Ok r = ap (λ y. y.0) h in cc answers_agree

    go : (b : Bool) → nat_le most_entries (length (site_at w a).entries) ≡ b → nat_le most_entries (length (site_at w a).entries) ≡ false
    go true full =
        let s = site_at w a in
        let refuses : step s 0 e ≡ (Err refused.JournalFull, s) = ap (recorded s 0 e) accepts ∙ ap (λ b. cond b (Err refused.JournalFull, s) (Ok r, noted s 0 e r)) full in
        absurd (two_answers (refusal.Office refused.JournalFull) w (sym (there w a e (Err refused.JournalFull, s) lt refuses) ∙ is))
    go false room = room

-- ---- what finished stays as it was

-- the sites after an entry of one of them
abbrev pub with_entry : PlanValue → List Site → ℕ → Event → Reply → List Site
with_entry plan sites a e r = set sites a (noted (get_or sites a (silent plan a)) 0 e r)

at_entry : (plan : PlanValue) (sites : List Site) (a : ℕ) (e : Event) (r : Reply) (d : Site) → a < length sites → get_or (with_entry plan sites a e r) a d ≡ noted (get_or sites a (silent plan a)) 0 e r
at_entry plan sites a e r d lt = get_or-set_same sites a (noted (get_or sites a (silent plan a)) 0 e r) d lt

longer : (plan : PlanValue) (sites : List Site) (a : ℕ) (e : Event) (r : Reply) (b : ℕ) → a < length sites →
    (more : List Finished) × (finished_of (get_or (with_entry plan sites a e r) b (silent plan b)) ≡ finished_of (get_or sites b (silent plan b)) ++ more)
longer plan sites a e r b lt = ⊎_elim here elsewhere (cases_eq b a)
  where
    here : b ≡ a → (more : List Finished) × (finished_of (get_or (with_entry plan sites a e r) b (silent plan b)) ≡ finished_of (get_or sites b (silent plan b)) ++ more)
    here same =
        let s = get_or sites a (silent plan a) in
        subst (λ k. (more : List Finished) × (finished_of (get_or (with_entry plan sites a e r) k (silent plan k)) ≡ finished_of (get_or sites k (silent plan k)) ++ more)) (sym same)
        (finished_by s.me (office_of s).agenda.current e, ap finished_of (at_entry plan sites a e r (silent plan a) lt) ∙ finished_noted s 0 e r)

    elsewhere : b ≢ a → (more : List Finished) × (finished_of (get_or (with_entry plan sites a e r) b (silent plan b)) ≡ finished_of (get_or sites b (silent plan b)) ++ more)
    elsewhere ne = ([], ap finished_of (get_or-set_other sites a b (noted (get_or sites a (silent plan a)) 0 e r) (silent plan b) ne) ∙ sym (append-nil (finished_of (get_or sites b (silent plan b)))))

-- what an office found by ticket it finds there again
found_longer : (plan : PlanValue) (sites : List Site) (a : ℕ) (e : Event) (r : Reply) (m : mark.Finished) → a < length sites → IsKnown plan sites m → found_in plan (with_entry plan sites a e r) m ≡ found_in plan sites m
found_longer plan sites a e r m lt (office, found) =
    let l = longer plan sites a e r m.office lt in
    let before : List Finished = finished_of (get_or sites m.office (silent plan m.office)) in
    let is : found_in plan sites m ≡ Some (finished_in plan sites m) = found_some (found_in plan sites m) no_session found in
    ap (find (has_ticket m.ticket)) l.1 ∙ find-append (has_ticket m.ticket) before l.0 ∙ ap (λ o. option_or o (find (has_ticket m.ticket) l.0)) is ∙ sym is

known_longer : (plan : PlanValue) (sites : List Site) (a : ℕ) (e : Event) (r : Reply) (m : mark.Finished) → a < length sites → IsKnown plan sites m → IsKnown plan (with_entry plan sites a e r) m
known_longer plan sites a e r m lt known =
    (omega (arith, known.0, length-set sites a (noted (get_or sites a (silent plan a)) 0 e r)), ap is_some (found_longer plan sites a e r m lt known) ∙ known.1)

same_finished : (plan : PlanValue) (sites : List Site) (a : ℕ) (e : Event) (r : Reply) (m : mark.Finished) → a < length sites → IsKnown plan sites m → finished_in plan (with_entry plan sites a e r) m ≡ finished_in plan sites m
same_finished plan sites a e r m lt known = ap (λ o. unwrap_or o no_session) (found_longer plan sites a e r m lt known)

pub same_map : {X Y : Type 0} (P : X → Type 0) (f g : X → Y) → ((x : X) → P x → f x ≡ g x) → (xs : List X) → All P xs → map f xs ≡ map g xs
same_map P f g same [] h = refl
same_map P f g same (x ∷ xs) h = ap (λ y. y ∷ map f xs) (same x (All-head P x xs h)) ∙ ap (λ l. g x ∷ l) (same_map P f g same xs (All-tail P x xs h))

pub same_list : (plan : PlanValue) (sites : List Site) (a : ℕ) (e : Event) (r : Reply) (marks : List mark.Finished) → a < length sites → All (IsKnown plan sites) marks → map (finished_in plan (with_entry plan sites a e r)) marks ≡ map (finished_in plan sites) marks
same_list plan sites a e r marks lt = same_map (IsKnown plan sites) (finished_in plan (with_entry plan sites a e r)) (finished_in plan sites) (λ m. same_finished plan sites a e r m lt) marks

-- ---- the lists beside the offices

-- what the event finishes is listed, and the office finds it by its ticket
pub record Lists (s : Site) (e : Event) (r : Reply) (marks marks' : List mark.Finished) : Type 0 where
  pub pushed : marks' ≡ marks ++ map listed_as (finishes s e)
  pub found : All (IsFoundIn (finished_of (noted s 0 e r))) (finishes s e)

pub record Beside (plan : PlanValue) (sites : List Site) (a : ℕ) (e : Event) (result : Result Reply WorldRefusal) (sites' : List Site) (frames frames' : List Fields) (marks marks' : List mark.Finished) : Type 0 where
  pub kept : (r : Reply) (o : Office) → Accepts (get_or sites a (silent plan a)) e r o → result ≡ Ok r → frames' ≡ frames ++ frames_of r
  pub unsent : (x : WorldRefusal) → result ≡ Err x → frames' ≡ frames
  pub fit : (r : Reply) (o : Office) → Accepts (get_or sites a (silent plan a)) e r o → result ≡ Ok r → All IsFrame (frames_of r)
  pub listed : (r : Reply) (o : Office) → a < length sites → Accepts (get_or sites a (silent plan a)) e r o → result ≡ Ok r → Lists (get_or sites a (silent plan a)) e r marks marks'
  pub unlisted : (x : WorldRefusal) → result ≡ Err x → marks' ≡ marks

abbrev Listed : PlanValue → List Site → List Finished → List mark.Finished → Type 0
Listed plan sites' fs ms = (map (finished_in plan sites') ms ≡ fs) × All (IsKnown plan sites') ms

-- sessions of one office that it finds
all_listed : (plan : PlanValue) (sites' : List Site) (a : ℕ) (fs : List Finished) → a < length sites' → All (λ (f : Finished). f.outcome.office ≡ a) fs → All (IsFoundIn (finished_of (get_or sites' a (silent plan a)))) fs → Listed plan sites' fs (map listed_as fs)
all_listed plan sites' a [] lt here found = (refl, All-nil (IsKnown plan sites'))
all_listed plan sites' a (f ∷ fs) lt here found =
    let of : f.outcome.office ≡ a = All-head (λ (g : Finished). g.outcome.office ≡ a) f fs here in
    let is : found_in plan sites' (listed_as f) ≡ Some f =
    ap (λ k. find (has_ticket f.outcome.ticket) (finished_of (get_or sites' k (silent plan k)))) of ∙ All-head (IsFoundIn (finished_of (get_or sites' a (silent plan a)))) f fs found in
    let rest = all_listed plan sites' a fs lt (All-tail (λ (g : Finished). g.outcome.office ≡ a) f fs here) (All-tail (IsFoundIn (finished_of (get_or sites' a (silent plan a)))) f fs found) in (
      ap (λ o. unwrap_or o no_session ∷ map (finished_in plan sites') (map listed_as fs)) is ∙ ap (λ l. f ∷ l) rest.0,
      All-cons (IsKnown plan sites') (listed_as f) (map listed_as fs) (omega (arith, lt, of), ap is_some is) rest.1,
    )

-- what an accepted event lists
listed_more : (plan : PlanValue) (sites : List Site) (a : ℕ) (e : Event) (r : Reply) (marks marks' : List mark.Finished) → a < length sites → IsSiteOf plan a (get_or sites a (silent plan a)) → All (IsKnown plan sites) marks →
    Lists (get_or sites a (silent plan a)) e r marks marks' →
    Listed plan (with_entry plan sites a e r) (map (finished_in plan sites) marks ++ finished_by a (office_of (get_or sites a (silent plan a))).agenda.current e) marks'
listed_more plan sites a e r marks marks' lt is known lists =
    let s : Site = get_or sites a (silent plan a) in
    let sites' : List Site = with_entry plan sites a e r in
    let fs : List Finished = finishes s e in
    let within : a < length sites' = omega (arith, lt, length-set sites a (noted s 0 e r)) in
    let here : All (λ (f : Finished). f.outcome.office ≡ a) fs = subst (λ k. All (λ (f : Finished). f.outcome.office ≡ k) fs) is.1 (finished_at s.me (office_of s).agenda.current e) in
    let found : All (IsFoundIn (finished_of (get_or sites' a (silent plan a)))) fs = subst (λ x. All (IsFoundIn (finished_of x)) fs) (sym (at_entry plan sites a e r (silent plan a) lt)) lists.found in
    let one = all_listed plan sites' a fs within here found in
    let old : All (IsKnown plan sites') marks = All-weaker (IsKnown plan sites) (IsKnown plan sites') (λ m. known_longer plan sites a e r m lt) marks known in
    let all : Listed plan sites' (map (finished_in plan sites) marks ++ fs) (marks ++ map listed_as fs) = (
      map-append (finished_in plan sites') marks (map listed_as fs) ∙ ap (λ l. l ++ map (finished_in plan sites') (map listed_as fs)) (same_list plan sites a e r marks lt known) ∙ ap (λ l. map (finished_in plan sites) marks ++ l) one.0,
      All-append (IsKnown plan sites') marks (map listed_as fs) old one.1,
    ) in
    subst (λ me. Listed plan sites' (map (finished_in plan sites) marks ++ finished_by me (office_of s).agenda.current e) marks') is.1
    (subst (Listed plan sites' (map (finished_in plan sites) marks ++ fs)) (sym lists.pushed) all)

-- ---- the step of the definition

pub applies : (plan : PlanValue) (sites sites' : List Site) (frames frames' : List Fields) (marks marks' : List mark.Finished) (a : ℕ) (e : Event) (result : Result Reply WorldRefusal) → IsWorld plan sites frames marks → Hands sites a e result sites' →
    Beside plan sites a e result sites' frames frames' marks marks' → OrMemory (world_in plan sites frames marks) (handed (world_in plan sites frames marks) a e) result (world_in plan sites' frames' marks')
applies plan sites sites' frames frames' marks marks' a e result world hands beside = go (handled (world_in plan sites frames marks) a e result sites' hands)
  where
    go : Handled (world_in plan sites frames marks) a e result sites' → OrMemory (world_in plan sites frames marks) (handed (world_in plan sites frames marks) a e) result (world_in plan sites' frames' marks')
    go (Same x is kept why) =
        let w = world_in plan sites frames marks in
        let same : world_in plan sites' frames' marks' ≡ w = ap (λ l. world_in plan l frames' marks') kept ∙ ap (λ l. world_in plan sites l marks') (beside.unsent x is) ∙ ap (world_in plan sites frames) (beside.unlisted x is) in
        ⊎_elim (λ m. inl (is ∙ ap Err m.0, same, m.1)) (λ h. inr (is ∙ sym (ap (λ y. y.0) h), same ∙ sym (ap (λ y. y.1) h))) why
    go (Grown lt r o accepts is kept h) =
        let w = world_in plan sites frames marks in
        let lists = listed_more plan sites a e r marks marks' lt (world.each a lt) world.known (beside.listed r o lt accepts is) in
        let grows : world_in plan sites' frames' marks' ≡ grown w a e r =
        ap (λ l. world_in plan l frames' marks') kept ∙ ap (λ l. world_in plan (with_entry plan sites a e r) l marks') (beside.kept r o accepts is)
        ∙ ap (λ l. record { plan = plan; sites = with_entry plan sites a e r; frames = frames ++ frames_of r; finished = l }) lists.0 in
        inr (is ∙ sym (ap (λ y. y.0) h), grows ∙ sym (ap (λ y. y.1) h))

-- ---- the world goes on

pub run_append : (w : World) (es : List WorldEvent) (e : WorldEvent) → run_of w (es ++ e ∷ []) ≡ (happens (run_of w es) e).1
run_append w [] e = refl
run_append w (x ∷ es) e = run_append (happens w x).1 es e

-- an event more leads to what it leaves
reached_more : (w w' : World) (e : WorldEvent) (result : Result Reply WorldRefusal) → IsReached w → w'.plan ≡ w.plan → OrMemory w (happens w e) result w' → IsReached w'
reached_more w w' e result reached same (inl h) = subst IsReached (sym h.1) reached
reached_more w w' e result reached same (inr h) = record {
  events = reached.events ++ e ∷ [];
  leads = ap (λ p. run_of (opening p) (reached.events ++ e ∷ [])) same ∙ run_append (opening w.plan) reached.events e ∙ ap (λ v. (happens v e).1) reached.leads ∙ sym h.1;
}

sites_kept : (plan : PlanValue) (sites : List Site) (a : ℕ) (e : Event) (r : Reply) (o : Office) → a < length sites → Accepts (get_or sites a (silent plan a)) e r o → nat_le most_entries (length (get_or sites a (silent plan a)).entries) ≡ false → ((b : ℕ) → b < length sites → IsSiteOf plan b (get_or sites b (silent plan b))) →
    (b : ℕ) → b < length (with_entry plan sites a e r) → IsSiteOf plan b (get_or (with_entry plan sites a e r) b (silent plan b))
sites_kept plan sites a e r o lt accepts room each b lt' = ⊎_elim here elsewhere (cases_eq b a)
  where
    here : b ≡ a → IsSiteOf plan b (get_or (with_entry plan sites a e r) b (silent plan b))
    here same = subst (λ k. IsSiteOf plan k (get_or (with_entry plan sites a e r) k (silent plan k))) (sym same) (subst (IsSiteOf plan a) (sym (at_entry plan sites a e r (silent plan a) lt))
        ((each a lt).0, (each a lt).1, still_legal (get_or sites a (silent plan a)) e r o (each a lt).2 accepts room))

    elsewhere : b ≢ a → IsSiteOf plan b (get_or (with_entry plan sites a e r) b (silent plan b))
    elsewhere ne = subst (IsSiteOf plan b) (sym (get_or-set_other sites a b (noted (get_or sites a (silent plan a)) 0 e r) (silent plan b) ne)) (each b (omega (arith, lt', length-set sites a (noted (get_or sites a (silent plan a)) 0 e r))))

-- the sites and the list after an event are a world's, if it is one of the world's
pub stays : (plan : PlanValue) (sites sites' : List Site) (frames frames' : List Fields) (marks marks' : List mark.Finished) (a : ℕ) (e : Event) (result : Result Reply WorldRefusal) (ev : WorldEvent) → IsWorld plan sites frames marks → Hands sites a e result sites' →
    Beside plan sites a e result sites' frames frames' marks marks' → happens (world_in plan sites frames marks) ev ≡ handed (world_in plan sites frames marks) a e → IsWorld plan sites' frames' marks'
stays plan sites sites' frames frames' marks marks' a e result ev world hands beside is = go (handled (world_in plan sites frames marks) a e result sites' hands)
  where
    reached : IsReached (world_in plan sites' frames' marks')
    reached = reached_more (world_in plan sites frames marks) (world_in plan sites' frames' marks') ev result world.reached refl
        (subst (λ x. OrMemory (world_in plan sites frames marks) x result (world_in plan sites' frames' marks')) (sym is) (applies plan sites sites' frames frames' marks marks' a e result world hands beside))

    go : Handled (world_in plan sites frames marks) a e result sites' → IsWorld plan sites' frames' marks'
    go (Same x told kept why) = record {
      accepted = world.accepted;
      count = ap length kept ∙ world.count;
      each = subst (λ (l : List Site). (b : ℕ) → b < length l → IsSiteOf plan b (get_or l b (silent plan b))) (sym kept) world.each;
      known = subst (λ l. All (IsKnown plan l) marks') (sym kept) (subst (All (IsKnown plan sites)) (sym (beside.unlisted x told)) world.known);
      fit = subst (All IsFrame) (sym (beside.unsent x told)) world.fit;
      reached = reached;
    }
    go (Grown lt r o accepts told kept h) =
        let lists = listed_more plan sites a e r marks marks' lt (world.each a lt) world.known (beside.listed r o lt accepts told) in
        record {
          accepted = world.accepted;
          count = ap length kept ∙ length-set sites a (noted (get_or sites a (silent plan a)) 0 e r) ∙ world.count;
          each = subst (λ (l : List Site). (b : ℕ) → b < length l → IsSiteOf plan b (get_or l b (silent plan b))) (sym kept) (sites_kept plan sites a e r o lt accepts (has_room (world_in plan sites frames marks) a e r o lt accepts h) world.each);
          known = subst (λ l. All (IsKnown plan l) marks') (sym kept) lists.1;
          fit = subst (All IsFrame) (sym (beside.kept r o accepts told)) (All-append IsFrame frames (frames_of r) world.fit (beside.fit r o accepts told));
          reached = reached;
        }
