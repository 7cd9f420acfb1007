-- What follows of worlds: how they begin, and what each event leaves there.
use Rattle.std.proofs.Common.{◌≡◌, ℕ, zero, suc, ◌<◌, Bool, true, false, cond, List, [], ◌∷◌, ◌++◌, length, map, Option, None, Some, Ok, Err, refl, sym, ap, subst, ◌∙◌, arith, inl, inr, ⊎_elim, get_or, set}
use Rattle.std.specs.Prelude.{nat_lt, nat_le, slice_get, ◌==◌}
use Rattle.std.specs.List.{range_with_len}
use Rattle.std.proofs.lemmas.Bool.{cases_eq, cases_lt, ltb-true}
use Rattle.std.proofs.lemmas.List.{get_or-set_same, get_or-set_other, length-set, get_or_past}
use Rattle.std.proofs.lemmas.List.FromFn.{get_or-map-range_with_len, length-map-range_with_len}
use mathlib.Core.Path.{fun_ext}
use Rattle.bottle_values.specs.Maps.{put}
use Rattle.bottle_values.specs.MapLaws.{put_at, put_other}
use Rattle.frame_codec.specs.Frame.{Fields}
use Rattle.office_map.specs.PlanValue.{PlanValue}
use Rattle.office_journal.specs.declared.event.Event as office
use Rattle.office_journal.specs.declared.event.Event.TheVariants as event
use Rattle.office_journal.specs.declared.event.Entry.{Entry}
use Rattle.office_journal.specs.declared.reply.Reply.{Reply}
use Rattle.office_journal.specs.declared.reply.Refusal.TheVariants as refused
use Rattle.site_core.specs.Limits.{most_entries}
use Rattle.site_core.specs.Offices.{Office, Answer, answer}
use Rattle.site_core.specs.Offices as site
use Rattle.site_core.specs.Journals.{Site, office_of, noted, recorded, step, next_or}
use Rattle.site_core.specs.JournalLaws.{office_noted, office_empty}
use Rattle.frame_world.specs.declared.event.WorldEvent.{WorldEvent}
use Rattle.frame_world.specs.declared.event.WorldEvent.TheVariants as happening
use Rattle.frame_world.specs.declared.refusal.WorldRefusal.TheVariants as refusal
use Rattle.frame_world.specs.WorldStates.{State, state_of, starting, MayCome, entry_of, after_reply, IsAccepted, IsSeated, Left}
use Rattle.frame_world.specs.Worlds.{World, silent, opening, site_at, office_at, frames_of, finished_by, told, handed, delivered, happens, run_of}

-- ---- at the start

silent_at : (plan : PlanValue) (a : ℕ) → site_at (opening plan) a ≡ silent plan a
silent_at plan a = ⊎_elim
    (λ lt. get_or-map-range_with_len (silent plan) 0 (length plan.offices) a a (silent plan a) lt (omega arith))
    (λ ge. get_or_past (map (silent plan) (range_with_len 0 (length plan.offices))) a (silent plan a) (omega (arith, ge, length-map-range_with_len (silent plan) 0 (length plan.offices))))
    (cases_lt a (length plan.offices))

pub seated_opening : (plan : PlanValue) → IsSeated plan (opening plan)
seated_opening plan = record {
  planned = refl;
  size = length-map-range_with_len (silent plan) 0 (length plan.offices);
  plans = λ a. ap (λ (s : Site). s.plan) (silent_at plan a);
  numbers = λ a. ap (λ (s : Site). s.me) (silent_at plan a);
}

abbrev with_offices : (ℕ → Office) → (ℕ → List Entry) → State
with_offices o j = record { office = o; journal = j; frames = []; finished = [] }

pub state_opening : (plan : PlanValue) → state_of (opening plan) ≡ starting plan
state_opening plan =
    ap (λ o. with_offices o (λ a. (site_at (opening plan) a).entries)) (fun_ext (λ a. ap office_of (silent_at plan a) ∙ office_empty plan a))
    ∙ ap (with_offices (site.opened plan)) (fun_ext (λ a. ap (λ (s : Site). s.entries) (silent_at plan a)))

-- ---- one event

-- the site of an office, where one changed
site_set : (w w' : World) (a : ℕ) (s : Site) → w'.sites ≡ set w.sites a s → w'.plan ≡ w.plan → a < length w.sites → (x : ℕ) → site_at w' x ≡ put (site_at w) a s x
site_set w w' a s e p lt x = ⊎_elim
    (λ is. ap (λ l. get_or l x (silent w'.plan x)) e ∙ ap (λ k. get_or (set w.sites a s) k (silent w'.plan x)) is ∙ get_or-set_same w.sites a s (silent w'.plan x) lt ∙ sym (put_at (site_at w) a s x is))
    (λ ne. ap (λ l. get_or l x (silent w'.plan x)) e ∙ get_or-set_other w.sites a x s (silent w'.plan x) ne ∙ ap (λ q. get_or w.sites x (silent q x)) p ∙ sym (put_other (site_at w) a s x ne))
    (cases_eq x a)

put_kept_as : {X Y : Type 0} (g : X → Y) (f : ℕ → X) (a : ℕ) (x : X) (y : Y) → g x ≡ y → (j : ℕ) → g (put f a x j) ≡ put (λ k. g (f k)) a y j
put_kept_as g f a x y e j = at (j == a)
  where
    at : (b : Bool) → g (cond b x (f j)) ≡ cond b y (g (f j))
    at true = e
    at false = refl

left_as_it_was : (plan : PlanValue) (w w' : World) → IsSeated plan w → w' ≡ w → Left plan w w'
left_as_it_was plan w w' h e = record { seated = subst (IsSeated plan) (sym e) h; led = inl (ap state_of e) }

-- what an office answers is by the plan and its number
pub as_seated : (plan : PlanValue) (w : World) (a : ℕ) (e : office.Event) → IsSeated plan w → answer (site_at w a).plan (site_at w a).me (office_at w a) e ≡ answer plan a (office_at w a) e
as_seated plan w a e s = ap (λ p. answer p (site_at w a).me (office_at w a) e) (s.plans a) ∙ ap (λ m. answer plan m (office_at w a) e) (s.numbers a)

-- the sites after an accepted event
told_sites : (w : World) (a : ℕ) (e : office.Event) (r : Reply) → nat_lt a (length w.sites) ≡ true → (x : ℕ) → site_at (told w a e (Ok r, noted (site_at w a) 0 e r)).1 x ≡ put (site_at w) a (noted (site_at w a) 0 e r) x
told_sites w a e r inside = site_set w (told w a e (Ok r, noted (site_at w a) 0 e r)).1 a (noted (site_at w a) 0 e r) refl refl (ltb-true a (length w.sites) inside)

-- and all of the world
pub told_state : (w : World) (a : ℕ) (e : office.Event) (r : Reply) (o : Office) → nat_lt a (length w.sites) ≡ true → answer (site_at w a).plan (site_at w a).me (office_at w a) e ≡ Ok (r, o) →
    state_of (told w a e (Ok r, noted (site_at w a) 0 e r)).1 ≡ after_reply (state_of w) a e r o
told_state w a e r o inside ans =
    ap (λ f. made f (λ x. (site_at w' x).entries)) (fun_ext (λ x. ap office_of (sites x) ∙ put_kept_as office_of (site_at w) a new o there x))
    ∙ ap (made (put (office_at w) a o)) (fun_ext (λ x. ap (λ (s : Site). s.entries) (sites x) ∙ put_kept_as (λ (s : Site). s.entries) (site_at w) a new ((site_at w a).entries ++ entry_of e r ∷ []) refl x))
  where
    new : Site
    new = noted (site_at w a) 0 e r

    w' : World
    w' = (told w a e (Ok r, new)).1

    sites : (x : ℕ) → site_at w' x ≡ put (site_at w) a new x
    sites = told_sites w a e r inside

    there : office_of new ≡ o
    there = office_noted (site_at w a) 0 e r ∙ ap (next_or (office_at w a)) ans

    made : (ℕ → Office) → (ℕ → List Entry) → State
    made f j = record { office = f; journal = j; frames = w.frames ++ frames_of r; finished = w.finished ++ finished_by a (office_at w a).agenda.current e }

-- an event that is accepted there, with its reply
abbrev pub accepted_as : (plan : PlanValue) (w : World) (a : ℕ) (e : office.Event) (r : Reply) (o : Office) → IsSeated plan w → MayCome w.frames a e → nat_lt a (length w.sites) ≡ true →
    answer (site_at w a).plan (site_at w a).me (office_at w a) e ≡ Ok (r, o) → IsAccepted plan (state_of w) (state_of (told w a e (Ok r, noted (site_at w a) 0 e r)).1)
accepted_as plan w a e r o h come inside ans = record {
  place = a;
  event = e;
  reply = r;
  new = o;
  inside = ap (nat_lt a) (sym h.size) ∙ inside;
  comes = come;
  answered = sym (as_seated plan w a e h) ∙ ans;
  led = told_state w a e r o inside ans;
}

accepted : (plan : PlanValue) (w : World) (a : ℕ) (e : office.Event) (r : Reply) (o : Office) → IsSeated plan w → MayCome w.frames a e → nat_lt a (length w.sites) ≡ true →
    answer (site_at w a).plan (site_at w a).me (office_at w a) e ≡ Ok (r, o) → Left plan w (told w a e (Ok r, noted (site_at w a) 0 e r)).1
accepted plan w a e r o h come inside ans = record {
  seated = record {
    planned = h.planned;
    size = length-set w.sites a new ∙ h.size;
    plans = λ x. ap (λ (s : Site). s.plan) (told_sites w a e r inside x) ∙ put_kept_as (λ (s : Site). s.plan) (site_at w) a new plan (h.plans a) x ∙ const (x == a) (h.plans x);
    numbers = λ x. ap (λ (s : Site). s.me) (told_sites w a e r inside x) ∙ numbered x;
  };
  led = inr (accepted_as plan w a e r o h come inside ans);
}
  where
    new : Site
    new = noted (site_at w a) 0 e r

    const : (b : Bool) → {y : PlanValue} → y ≡ plan → cond b plan y ≡ plan
    const true e = refl
    const false e = e

    numbered : (x : ℕ) → (put (site_at w) a new x).me ≡ x
    numbered x = ⊎_elim (λ is. ap (λ (s : Site). s.me) (put_at (site_at w) a new x is) ∙ h.numbers a ∙ sym is) (λ ne. ap (λ (s : Site). s.me) (put_other (site_at w) a new x ne) ∙ h.numbers x) (cases_eq x a)

pub handed_leaves : (plan : PlanValue) (w : World) (a : ℕ) (e : office.Event) → IsSeated plan w → MayCome w.frames a e → Left plan w (handed w a e).1
handed_leaves plan w a e h come = by_place (nat_lt a (length w.sites)) refl
  where
    s : Site
    s = site_at w a

    by_room : (r : Reply) (o : Office) → answer s.plan s.me (office_of s) e ≡ Ok (r, o) → nat_lt a (length w.sites) ≡ true → (full : Bool) → Left plan w (told w a e (cond full (Err refused.JournalFull, s) (Ok r, noted s 0 e r))).1
    by_room r o ans inside true = left_as_it_was plan w w h refl
    by_room r o ans inside false = accepted plan w a e r o h come inside ans

    by_answer : (x : Answer) → answer s.plan s.me (office_of s) e ≡ x → nat_lt a (length w.sites) ≡ true → Left plan w (told w a e (recorded s 0 e x)).1
    by_answer (Ok x) ans inside = by_room x.0 x.1 ans inside (nat_le most_entries (length s.entries))
    by_answer (Err r) ans inside = left_as_it_was plan w w h refl

    by_place : (b : Bool) → nat_lt a (length w.sites) ≡ b → Left plan w (cond b (told w a e (step s 0 e)) (Err refusal.NoOffice, w)).1
    by_place true inside = by_answer (answer s.plan s.me (office_of s) e) refl inside
    by_place false inside = left_as_it_was plan w w h refl

pub happens_leaves : (plan : PlanValue) (w : World) (e : WorldEvent) → IsSeated plan w → Left plan w (happens w e).1
happens_leaves plan w (happening.Submit a p) h = handed_leaves plan w a (event.Submit p) h tt
happens_leaves plan w (happening.Withdraw a t) h = handed_leaves plan w a (event.Withdraw t) h tt
happens_leaves plan w (happening.Do a rule) h = handed_leaves plan w a (event.Do rule) h tt
happens_leaves plan w (happening.Send a v i) h = handed_leaves plan w a (event.Send v i) h tt
happens_leaves plan w (happening.Deliver zero) h = left_as_it_was plan w w h refl
happens_leaves plan w (happening.Deliver (suc k)) h = of (slice_get w.frames k) refl
  where
    of : (f : Option Fields) → slice_get w.frames k ≡ f → Left plan w (delivered w f).1
    of None e = left_as_it_was plan w w h refl
    of (Some f) e = handed_leaves plan w f.to (event.Took f) h (refl, k, e)

-- ---- all of them

go_on : (plan : PlanValue) (P : State → Type 0) → ((s s' : State) → P s → IsAccepted plan s s' → P s') → (w : World) (es : List WorldEvent) → IsSeated plan w → P (state_of w) → IsSeated plan (run_of w es) × P (state_of (run_of w es))
go_on plan P keeps w [] h p = (h, p)
go_on plan P keeps w (e ∷ es) h p =
    let l = happens_leaves plan w e h in
    go_on plan P keeps (happens w e).1 es l.seated (⊎_elim (λ same. subst P (sym same) p) (λ s. keeps (state_of w) (state_of (happens w e).1) p s) l.led)

-- what holds at the start, and after each accepted event where it held before, holds after every list of events
pub through : (plan : PlanValue) (P : State → Type 0) → P (starting plan) → ((s s' : State) → P s → IsAccepted plan s s' → P s') → (es : List WorldEvent) → P (state_of (run_of (opening plan) es))
through plan P first keeps es = (go_on plan P keeps (opening plan) es (seated_opening plan) (subst P (sym (state_opening plan)) first)).1

pub seated : (plan : PlanValue) (es : List WorldEvent) → IsSeated plan (run_of (opening plan) es)
seated plan es = (go_on plan (λ s. Unit {0}) (λ s s' p i. tt) (opening plan) es (seated_opening plan) tt).0
