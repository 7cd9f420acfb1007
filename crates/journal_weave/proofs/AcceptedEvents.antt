-- What an accepted event of a world leaves: one office has one entry more, and the world the frame of its reply.
use Rattle.std.proofs.Common.{◌≡◌, ◌≢◌, ℕ, zero, suc, ◌<◌, Bool, true, false, cond, List, [], ◌∷◌, ◌++◌, length, set, Option, None, Some, Ok, Err, refl, sym, ap, subst, ◌∙◌, arith, ⊎_elim, append-nil}
use Rattle.std.specs.Prelude.{Result, IsOk, nat_lt, nat_le, slice_get}
use Rattle.std.proofs.lemmas.Bool.{cases_eq, lt-ltb}
use Rattle.std.proofs.lemmas.Bool.Decides.{nat_tests}
use Rattle.std.proofs.lemmas.List.{get_or-set_same, get_or-set_other, append_assoc}
use Rattle.frame_codec.specs.Frame.{Fields}
use Rattle.office_map.specs.PlanValue.{PlanValue}
use Rattle.office_journal.specs.declared.event.Event.{Event}
use Rattle.office_journal.specs.declared.event.Event.TheVariants as event
use Rattle.office_journal.specs.declared.event.Entry.{Entry}
use Rattle.office_journal.specs.declared.reply.Reply.{Reply}
use Rattle.office_journal.specs.declared.reply.Refusal as offices
use Rattle.office_journal.specs.declared.reply.Refusal.TheVariants as refused
use Rattle.site_core.specs.Limits.{most_entries}
use Rattle.site_core.specs.Offices.{answer}
use Rattle.site_core.specs.Offices as answers
use Rattle.site_core.specs.Journals.{Site, office_of, noted, recorded, step}
use Rattle.frame_world.specs.declared.event.WorldEvent.{WorldEvent}
use Rattle.frame_world.specs.declared.event.WorldEvent.TheVariants as happening
use Rattle.frame_world.specs.declared.refusal.WorldRefusal.{WorldRefusal}
use Rattle.frame_world.specs.declared.refusal.WorldRefusal.TheVariants as refusal
use Rattle.frame_world.specs.Worlds.{World, Answer, silent, opening, site_at, office_at, frames_of, finished_by, told, handed, delivered, happens, run_of, AreAccepted}
use Rattle.frame_world.specs.WorldStates.{State, IsSeated}
use Rattle.frame_world.specs.WorldLaws.{seated_opening, state_opening, happens_leaves}
use Rattle.journal_weave.specs.Weaving.{entries_at}
use Rattle.journal_weave.specs.Laws.{IsBehind}
use Rattle.journal_weave.specs.Following.{Gives}
use Rattle.journal_weave.specs.refinement.Merging.{IsSound}
use Rattle.journal_weave.specs.FrameLaws.{AreAmong, are_among_themselves, among_left}
use Rattle.bottle_values.specs.ListLaws.{nothing_at, get_push, get_right}

abbrev pub grown : World → ℕ → Event → Reply → World
grown w a e r = record {
  plan = w.plan;
  sites = set w.sites a (noted (site_at w a) 0 e r);
  frames = w.frames ++ frames_of r;
  finished = w.finished ++ finished_by a (office_at w a).agenda.current e;
}

abbrev pub note : Event → Reply → Entry
note e r = record { tag = 0; event = e; reply = r }

abbrev Stepped : Type 0
Stepped = Result Reply offices.Refusal × Site

-- the office gives that event and reply
pub record Grows (w : World) (a : ℕ) (e : Event) (r : Reply) : Type 0 where
  pub inside : a < length w.sites
  pub gives : Gives (site_at w a) (note e r)

pub grows_to : (w : World) (a : ℕ) (e : Event) (r : Reply) → Grows w a e r → handed w a e ≡ (Ok r, grown w a e r)
grows_to w a e r g = ap (λ b. cond {A = Answer} b (told w a e (step (site_at w a) 0 e)) (Err refusal.NoOffice, w)) (lt-ltb a (length w.sites) g.inside) ∙ ap (told w a e) g.gives

pub grows : (w : World) (a : ℕ) (e : Event) (r : Reply) → (handed w a e).0 ≡ Ok r → Grows w a e r
grows w a e r ok = by_place (nat_lt a (length w.sites)) refl ok
  where
    s : Site
    s = site_at w a

    chosen : Reply → Bool → Stepped
    chosen q full = cond {A = Stepped} full (Err refused.JournalFull, s) (Ok q, noted s 0 e q)

    by_room : (q : Reply) (full : Bool) → (told w a e (chosen q full)).0 ≡ Ok r → ◌≡◌ {A = Stepped} (chosen q full) (Ok r, noted s 0 e r)
    by_room q true h = cc
    by_room q false h = let same : q ≡ r = cc in ap (λ z. chosen z false) same

    by_answer : (x : answers.Answer) → (told w a e (recorded s 0 e x)).0 ≡ Ok r → recorded s 0 e x ≡ (Ok r, noted s 0 e r)
    by_answer (Ok x) h = by_room x.0 (nat_le most_entries (length s.entries)) h
    by_answer (Err x) h = cc

    by_place : (b : Bool) → nat_lt a (length w.sites) ≡ b → (cond {A = Answer} b (told w a e (step s 0 e)) (Err refusal.NoOffice, w)).0 ≡ Ok r → Grows w a e r
    by_place true inside h = record { inside = grind (arith, nat_tests, inside); gives = by_answer (answer s.plan s.me (office_of s) e) h }
    by_place false inside h = cc

pub here : (w : World) (a : ℕ) (e : Event) (r : Reply) → a < length w.sites → site_at (grown w a e r) a ≡ noted (site_at w a) 0 e r
here w a e r lt = get_or-set_same w.sites a (noted (site_at w a) 0 e r) (silent w.plan a) lt

pub elsewhere : (w : World) (a : ℕ) (e : Event) (r : Reply) (b : ℕ) → b ≢ a → site_at (grown w a e r) b ≡ site_at w b
elsewhere w a e r b ne = get_or-set_other w.sites a b (noted (site_at w a) 0 e r) (silent w.plan b) ne

abbrev pub entries : Site → List Entry
entries s = s.entries

-- the office and the event of what happens in one world, and what makes the same happen in another that has its frames
pub record Acts (v w : World) (e : WorldEvent) : Type 0 where
  pub place : ℕ
  pub does : Event
  pub is : happens v e ≡ handed v place does
  pub other : WorldEvent
  pub same : happens w other ≡ handed w place does
  pub comes : (f : Fields) → does ≡ event.Took f → (f.to ≡ place) × (k : ℕ) × (slice_get v.frames k ≡ Some f)

pub acts : (v w : World) (e : WorldEvent) (r : Reply) → AreAmong v.frames w.frames → (happens v e).0 ≡ Ok r → Acts v w e
acts v w (happening.Submit a p) r sub ok = record { place = a; does = event.Submit p; is = refl; other = happening.Submit a p; same = refl; comes = λ f i. cc }
acts v w (happening.Withdraw a t) r sub ok = record { place = a; does = event.Withdraw t; is = refl; other = happening.Withdraw a t; same = refl; comes = λ f i. cc }
acts v w (happening.Do a x) r sub ok = record { place = a; does = event.Do x; is = refl; other = happening.Do a x; same = refl; comes = λ f i. cc }
acts v w (happening.Send a b i) r sub ok = record { place = a; does = event.Send b i; is = refl; other = happening.Send a b i; same = refl; comes = λ f i. cc }
acts v w (happening.Deliver zero) r sub ok = cc
acts v w (happening.Deliver (suc k)) r sub ok = of (slice_get v.frames k) refl ok
  where
    of : (f : Option Fields) → slice_get v.frames k ≡ f → (delivered v f).0 ≡ Ok r → Acts v w (happening.Deliver (suc k))
    of None e h = cc
    of (Some f) e h = let j = sub k f e in record { place = f.to; does = event.Took f; is = ap (delivered v) e; other = happening.Deliver (suc j.0); same = ap (delivered w) j.1; comes = λ g i. let one : f ≡ g = cc in (ap (λ (z : Fields). z.to) (sym one), k, e ∙ ap Some one) }

pub reply_in : (x : Result Reply WorldRefusal) → IsOk x → (r : Reply) × (x ≡ Ok r)
reply_in (Ok r) h = (r, refl)
reply_in (Err e) h = cc

-- ---- what holds of each world that accepted events lead to

-- nothing was accepted at first
pub nothing_told : (plan : PlanValue) (a : ℕ) → entries_at (opening plan) a ≡ []
nothing_told plan a = ap (λ (s : State). s.journal a) (state_opening plan)

pub sound_opening : (plan : PlanValue) → IsSound plan (opening plan)
sound_opening plan = record {
  seats = seated_opening plan;
  known = λ a k x e. absurd (nothing_at k x (sym (ap (λ l. slice_get l k) (nothing_told plan a)) ∙ e));
}

pub site_is : (plan : PlanValue) (w : World) (a : ℕ) → IsSeated plan w → site_at w a ≡ record { plan = plan; me = a; entries = entries_at w a }
site_is plan w a h = ap (λ p. record { plan = p; me = (site_at w a).me; entries = entries_at w a }) (h.plans a) ∙ ap (λ m. record { plan = plan; me = m; entries = entries_at w a }) (h.numbers a)

abbrev Known : World → Type 0
Known w = (a k : ℕ) (x : Entry) → slice_get (entries_at w a) k ≡ Some x → AreAmong (frames_of x.reply) w.frames

known_grown : (w : World) (a : ℕ) (e : Event) (r : Reply) → a < length w.sites → Known w → Known (grown w a e r)
known_grown w a e r lt h b k x g = ⊎_elim
    (λ i. ⊎_elim
    (λ old. among_left (frames_of x.reply) w.frames (frames_of r) (h a k x old))
    (λ new. λ j f at. get_right w.frames (frames_of r) j f (subst (λ q. slice_get (frames_of q) j ≡ Some f) (sym (ap (λ (z : Entry). z.reply) new)) at))
    (get_push (entries_at w a) (note e r) x k (sym (ap (λ l. slice_get l k) (ap (λ c. entries_at (grown w a e r) c) i ∙ ap entries (here w a e r lt))) ∙ g)))
    (λ n. among_left (frames_of x.reply) w.frames (frames_of r) (h b k x (sym (ap (λ (s : Site). slice_get s.entries k) (elsewhere w a e r b n)) ∙ g)))
    (cases_eq b a)

-- an accepted event, whatever it is
pub record Happened (w : World) (e : WorldEvent) : Type 0 where
  pub place : ℕ
  pub does : Event
  pub reply : Reply
  pub grows : Grows w place does reply
  pub leaves : happens w e ≡ (Ok reply, grown w place does reply)
  pub comes : (f : Fields) → does ≡ event.Took f → (f.to ≡ place) × (k : ℕ) × (slice_get w.frames k ≡ Some f)

pub happened : (w : World) (e : WorldEvent) → IsOk (happens w e).0 → Happened w e
happened w e ok =
    let r = reply_in (happens w e).0 ok in
    let d = acts w w e r.0 (are_among_themselves w.frames) r.1 in
    let g = grows w d.place d.does r.0 (sym (ap (λ x. x.0) d.is) ∙ r.1) in
    record { place = d.place; does = d.does; reply = r.0; grows = g; leaves = d.is ∙ grows_to w d.place d.does r.0 g; comes = d.comes }

pub sound_after : (plan : PlanValue) (w : World) (e : WorldEvent) → IsSound plan w → IsOk (happens w e).0 → IsSound plan (happens w e).1
sound_after plan w e h ok =
    let d = happened w e ok in
    record {
      seats = (happens_leaves plan w e h.seats).seated;
      known = subst (λ x. Known x.1) (sym d.leaves) (known_grown w d.place d.does d.reply d.grows.inside h.known);
    }

pub sound : (plan : PlanValue) (w : World) (es : List WorldEvent) → IsSound plan w → AreAccepted w es → IsSound plan (run_of w es)
sound plan w [] h ok = h
sound plan w (e ∷ es) h (ok, oks) = sound plan (happens w e).1 es (sound_after plan w e h ok) oks

-- ---- behind

behind_grown : (w : World) (a : ℕ) (e : Event) (r : Reply) → a < length w.sites → IsBehind w (grown w a e r)
behind_grown w a e r lt b = ⊎_elim
    (λ i. (note e r ∷ [], ap (entries_at (grown w a e r)) i ∙ ap entries (here w a e r lt) ∙ ap (λ k. entries_at w k ++ note e r ∷ []) (sym i)))
    (λ n. ([], ap entries (elsewhere w a e r b n) ∙ sym (append-nil (entries_at w b))))
    (cases_eq b a)

-- a world that goes on has what it had
pub run_behind : (v : World) (es : List WorldEvent) → AreAccepted v es → IsBehind v (run_of v es)
run_behind v [] ok a = ([], sym (append-nil (entries_at v a)))
run_behind v (e ∷ es) (ok, oks) a =
    let d = happened v e ok in
    let one : (rest : List Entry) × (entries_at (happens v e).1 a ≡ entries_at v a ++ rest) = subst (λ x. (rest : List Entry) × (entries_at x.1 a ≡ entries_at v a ++ rest)) (sym d.leaves) (behind_grown v d.place d.does d.reply d.grows.inside a) in
    let more = run_behind (happens v e).1 es oks a in
    (one.0 ++ more.0, more.1 ∙ ap (λ l. l ++ more.0) one.1 ∙ append_assoc (entries_at v a) one.0 more.0)
