-- What a world does that is left to itself.
use Rattle.std.proofs.Common.{◌≡◌, ◌≢◌, ℕ, zero, suc, ◌+◌, ◌<◌, ◌≤◌, Bool, true, false, cond, List, [], ◌∷◌, ◌++◌, length, get_or, Option, None, Some, Ok, Err, refl, sym, ap, subst, ◌∙◌, arith, inl, inr}
use Rattle.std.specs.Prelude.{Result, nat_lt, nat_le, IsOk, ◌==◌, ◌&&◌, unwrap_or}
use Rattle.std.specs.List.{list_all}
use Rattle.std.specs.Option.{option_or}
use Rattle.std.proofs.lemmas.Bool.{eq-eqb}
use Rattle.frame_codec.specs.Frame.{Fields}
use Rattle.office_map.specs.PlanValue.{PlanValue, are_neighbours}
use Rattle.office_journal.specs.declared.event.Event.TheVariants as event
use Rattle.office_journal.specs.declared.rule.Rule.{Rule}
use Rattle.office_journal.specs.declared.reply.Reply.{Reply}
use Rattle.office_journal.specs.declared.reply.Reply.TheVariants as reply
use Rattle.office_journal.specs.declared.reply.Refusal.TheVariants as refused
use Rattle.site_core.specs.Limits.{most_entries}
use Rattle.site_core.specs.Agenda.{unfinished}
use Rattle.site_core.specs.Offices.{frame_on, framed}
use Rattle.site_core.specs.Journals.{Site, office_of, noted, recorded, step}
use Rattle.frame_world.specs.declared.event.WorldEvent.{WorldEvent}
use Rattle.frame_world.specs.declared.event.WorldEvent.TheVariants as happening
use Rattle.frame_world.specs.declared.refusal.WorldRefusal.{WorldRefusal}
use Rattle.frame_world.specs.declared.refusal.WorldRefusal.TheVariants as refusal
use Rattle.frame_world.specs.declared.next_step.NextStep.{NextStep}
use Rattle.frame_world.specs.declared.next_step.NextStep.TheVariants as next
use Rattle.frame_world.specs.Worlds.{World, Answer, opening, site_at, silent, told, happens, AreAccepted}
use Rattle.frame_world.specs.Worlds as worlds
use Rattle.frame_world.specs.Headline.{Always}
use Rattle.frame_world.specs.Standstill.{next_step, place_of, AllAreFinished, first_office, rule_at, message_from, HasRoom, IsStep, MayDo, IsNextMessage, IsSentAndTaken, NeverStuck, RulesAreDone, MessagesAreTaken}
use Rattle.simulation.specs.declared.scripts.said.Said.TheVariants.{Replied, Rules, Settled, Open}
use Rattle.simulation.specs.scripts.Runs.{Told, settled, by_step, further, stepped, at_most}
use Rattle.simulation.specs.scripts.Runs as runs
use Rattle.simulation.specs.scripts.Settling.{events_of, IsRefused, Lead, Ends, WorldsSettleByTheirNextSteps}

-- ---- worlds that events lead to

abbrev Reached : PlanValue → World → Type 0
Reached plan w = (es : List WorldEvent) × (worlds.run_of (opening plan) es ≡ w)

run_more : (w : World) (es : List WorldEvent) (e : WorldEvent) → worlds.run_of w (es ++ e ∷ []) ≡ (happens (worlds.run_of w es) e).1
run_more w [] e = refl
run_more w (x ∷ xs) e = run_more (happens w x).1 xs e

later : (plan : PlanValue) (w v : World) (e : WorldEvent) → (happens w e).1 ≡ v → Reached plan w → Reached plan v
later plan w v e led r = (r.0 ++ e ∷ [], run_more (opening plan) r.0 e ∙ ap (λ u. (happens u e).1) r.1 ∙ led)

record Laws (plan : PlanValue) : Type 0 where
  stuck : (w : World) → Reached plan w → IsStep w (next_step w)
  rules : (w : World) → Reached plan w → RulesAreDone w
  messages : (w : World) → Reached plan w → MessagesAreTaken w

-- ---- no session is left

none_left : (xs : List Site) (d : ℕ → Site) → ((i : ℕ) → unfinished (office_of (get_or xs i (d i))).agenda ≡ 0) → list_all (λ (s : Site). unfinished (office_of s).agenda == 0) xs ≡ true
none_left [] d h = refl
none_left (x ∷ xs) d h =
    ap (λ b. b && list_all (λ (s : Site). unfinished (office_of s).agenda == 0) xs) (eq-eqb (unfinished (office_of x).agenda) 0 (h 0))
    ∙ none_left xs (λ i. d (suc i)) (λ i. h (suc i))

pub next_if_finished : (w : World) → AllAreFinished w → next_step w ≡ next.AllFinished
next_if_finished w h = ap (λ b. cond b next.AllFinished (unwrap_or (option_or (first_office w (rule_at w)) (first_office w (message_from w))) next.AllFinished)) (none_left w.sites (silent w.plan) h)

rule_is_left : (w : World) (a : ℕ) (r : Rule) → next_step w ≡ next.Rule a r → AllAreFinished w → ⊥
rule_is_left w a r is h = absurd (let both : next.Rule a r ≡ next.AllFinished = sym is ∙ next_if_finished w h in cc)

message_is_left : (w : World) (a b number : ℕ) → next_step w ≡ next.Message a b number → AllAreFinished w → ⊥
message_is_left w a b number is h = absurd (let both : next.Message a b number ≡ next.AllFinished = sym is ∙ next_if_finished w h in cc)

rule_is_a_step : (a : ℕ) (r : Rule) → next.Rule a r ≢ next.AllFinished
rule_is_a_step a r h = absurd cc

message_is_a_step : (a b number : ℕ) → next.Message a b number ≢ next.AllFinished
message_is_a_step a b number h = absurd cc

-- ---- what is accepted

accepted : (x : Answer) (r : Reply) (v : World) → x ≡ (Ok r, v) → IsOk x.0
accepted x r v e = subst (λ (y : Answer). IsOk y.0) (sym e) refl

-- what is answered isn't refused
not_both : (x : Answer) (r : Reply) (e : WorldRefusal) (v : World) → x.0 ≡ Ok r → x ≡ (Err e, v) → ⊥
not_both x r e v ok err = absurd (let both : ◌≡◌ {A = Result Reply WorldRefusal} (Ok r) (Err e) = sym ok ∙ ap (λ (y : Answer). y.0) err in cc)

length_one : (fs : List Fields) (f : Fields) → length (fs ++ f ∷ []) ≡ suc (length fs)
length_one [] f = refl
length_one (x ∷ xs) f = ap suc (length_one xs f)

-- where a frame is made, there is one more
one_is_sent : (w : World) (a b i : ℕ) (r : Reply) (v : World) → happens w (happening.Send a b i) ≡ (Ok r, v) → length v.frames ≡ suc (length w.frames)
one_is_sent w a b i r v = by_place (nat_lt a (length w.sites))
  where
    s : Site
    s = site_at w a

    clash : (e : WorldRefusal) (u : World) → ◌≡◌ {A = Answer} (Err e, u) (Ok r, v) → ⊥
    clash e u is = absurd (let both : ◌≡◌ {A = Result Reply WorldRefusal} (Err e) (Ok r) = ap (λ (y : Answer). y.0) is in cc)

    by_room : (f : Fields) (full : Bool) → told w a (event.Send b i) (cond full (Err refused.JournalFull, s) (Ok (reply.Frame f), noted s 0 (event.Send b i) (reply.Frame f))) ≡ (Ok r, v) → length v.frames ≡ suc (length w.frames)
    by_room f true is = absurd (clash (refusal.Office refused.JournalFull) w is)
    by_room f false is = ap (λ (y : Answer). length y.1.frames) (sym is) ∙ length_one w.frames f

    by_frame : (o : Option Fields) → told w a (event.Send b i) (recorded s 0 (event.Send b i) (framed (office_of s) o)) ≡ (Ok r, v) → length v.frames ≡ suc (length w.frames)
    by_frame None is = absurd (clash (refusal.Office refused.NotNow) w is)
    by_frame (Some f) is = by_room f (nat_le most_entries (length s.entries)) is

    by_near : (near : Bool) → told w a (event.Send b i) (recorded s 0 (event.Send b i) (cond near (framed (office_of s) (frame_on ((office_of s).pairs.link b) i)) (Err refused.NotNow))) ≡ (Ok r, v) → length v.frames ≡ suc (length w.frames)
    by_near true is = by_frame (frame_on ((office_of s).pairs.link b) i) is
    by_near false is = absurd (clash (refusal.Office refused.NotNow) w is)

    by_place : (inside : Bool) → cond inside (told w a (event.Send b i) (step s 0 (event.Send b i))) (Err refusal.NoOffice, w) ≡ (Ok r, v) → length v.frames ≡ suc (length w.frames)
    by_place true is = by_near (are_neighbours s.plan s.me b) is
    by_place false is = absurd (clash refusal.NoOffice w is)

-- ---- all steps

-- so many were told before, and so many more may be done
abbrev EndsAfter : ℕ → ℕ → ℕ → World → Told → Type 0
EndsAfter before left done w (Ok (Settled n), v) = (v ≡ w) × (n ≡ before + done) × (done ≤ left) × AllAreFinished w
EndsAfter before left done w (Ok (Open n), v) = (v ≡ w) × (n ≡ before + done) × (done ≡ left) × (AllAreFinished w → ⊥)
EndsAfter before left done w (Ok (Replied r), v) = ⊥
EndsAfter before left done w (Ok (Rules n), v) = ⊥
EndsAfter before left done w (Err r, v) = (done < left) × IsRefused w (events_of w (next_step w)) r v × (((a : ℕ) → HasRoom w a) → ⊥)

record SettlesAfter (w : World) (before left : ℕ) (t : Told) : Type 0 where
  steps : List NextStep
  world : World
  lead : Lead w steps world
  ends : EndsAfter before left (length steps) world t

here : (w : World) (before left : ℕ) (t : Told) → EndsAfter before left 0 w t → SettlesAfter w before left t
here w before left t ends = record { steps = []; world = w; lead = refl; ends = ends }

one_more : (before left done : ℕ) (w : World) (t : Told) → EndsAfter (before + 1) left done w t → EndsAfter before (suc left) (suc done) w t
one_more before left done w (Ok (Settled n), v) (same, count, few, all) = (same, omega (arith, count), omega (arith, few), all)
one_more before left done w (Ok (Open n), v) (same, count, few, some) = (same, omega (arith, count), omega (arith, few), some)
one_more before left done w (Ok (Replied r), v) h = absurd h
one_more before left done w (Ok (Rules n), v) h = absurd h
one_more before left done w (Err r, v) (few, is, full) = (omega (arith, few), is, full)

-- a step is done, and what comes after it follows
follows : (w v : World) (before left : ℕ) (s : NextStep) (t : Told) → next_step w ≡ s → s ≢ next.AllFinished → AreAccepted w (events_of w s) → worlds.run_of w (events_of w s) ≡ v → SettlesAfter v (before + 1) left t → SettlesAfter w before (suc left) t
follows w v before left s t is done ok led rest = record {
  steps = s ∷ rest.steps;
  world = rest.world;
  lead = (is, done, ok, subst (λ u. Lead u rest.steps rest.world) (sym led) rest.lead);
  ends = one_more before left (length rest.steps) rest.world t rest.ends;
}

-- one is refused, where it would be done if all journals had room
refuses : (w v : World) (before left : ℕ) (s : NextStep) (r : WorldRefusal) → next_step w ≡ s → IsRefused w (events_of w s) r v → (((a : ℕ) → HasRoom w a) → ⊥) → SettlesAfter w before (suc left) (Err r, v)
refuses w v before left s r is not_done full = here w before (suc left) (Err r, v) (omega arith, subst (λ x. IsRefused w (events_of w x) r v) (sym is) not_done, full)

-- no step may be done any more
at_last : (w : World) (before : ℕ) (s : NextStep) → next_step w ≡ s → IsStep w s → SettlesAfter w before 0 (Ok (at_most before s), w)
at_last w before (next.Rule a r) is h = here w before 0 (Ok (Open before), w) (refl, omega arith, refl, rule_is_left w a r is)
at_last w before (next.Message a b number) is h = here w before 0 (Ok (Open before), w) (refl, omega arith, refl, message_is_left w a b number is)
at_last w before next.AllFinished is h = here w before 0 (Ok (Settled before), w) (refl, omega arith, omega arith, h)

module _ (plan : PlanValue) (laws : Laws plan) (w : World) (reached : Reached plan w) (before left : ℕ) (on : World → Told) (rest : (v : World) → Reached plan v → SettlesAfter v (before + 1) left (on v)) where
  ruled : (a : ℕ) (r : Rule) → next_step w ≡ next.Rule a r → MayDo w a r → (x : Answer) → happens w (happening.Do a r) ≡ x → SettlesAfter w before (suc left) (further on x)
  ruled a r is may (Ok y, v) e =
      let led : (happens w (happening.Do a r)).1 ≡ v = ap (λ (x : Answer). x.1) e in
      follows w v before left (next.Rule a r) (on v) is (rule_is_a_step a r) (accepted (happens w (happening.Do a r)) y v e, tt) led (rest v (later plan w v (happening.Do a r) led reached))
  ruled a r is may (Err y, v) e =
      refuses w v before left (next.Rule a r) y is (inl e) (λ room. not_both (happens w (happening.Do a r)) reply.Done y v (laws.rules w reached a r may (room a)) e)

  module _ (a b number : ℕ) (is : next_step w ≡ next.Message a b number) (m : IsNextMessage w a b number) where
    abbrev sending : WorldEvent
    sending = happening.Send a b (place_of w a b number)

    abbrev coming : WorldEvent
    coming = happening.Deliver (suc (length w.frames))

    taken : ((x : ℕ) → HasRoom w x) → IsSentAndTaken w a b number
    taken room = laws.messages w reached a b number m (room a) (room b)

    comes : (y : Reply) (v : World) → happens w sending ≡ (Ok y, v) → (x : Answer) → happens v coming ≡ x → SettlesAfter w before (suc left) (further on x)
    comes y v e (Ok z, u) f =
        let to_v : (happens w sending).1 ≡ v = ap (λ (x : Answer). x.1) e in
        let to_u : (happens v coming).1 ≡ u = ap (λ (x : Answer). x.1) f in
        let there : happens (happens w sending).1 coming ≡ (Ok z, u) = ap (λ x. happens x coming) to_v ∙ f in
        follows w u before left (next.Message a b number) (on u) is (message_is_a_step a b number) (accepted (happens w sending) y v e, (accepted (happens (happens w sending).1 coming) z u there, tt)) (ap (λ (x : Answer). x.1) there)
        (rest u (later plan v u coming to_u (later plan w v sending to_v reached)))
    comes y v e (Err z, u) f =
        let to_v : (happens w sending).1 ≡ v = ap (λ (x : Answer). x.1) e in
        let there : happens (happens w sending).1 coming ≡ (Err z, u) = ap (λ x. happens x coming) to_v ∙ f in
        refuses w u before left (next.Message a b number) z is (inr (accepted (happens w sending) y v e, inl there))
        (λ room. not_both (happens (happens w sending).1 coming) reply.Taken z u (taken room).taken there)

    sent : (x : Answer) → happens w sending ≡ x → SettlesAfter w before (suc left) (further on (runs.delivered x))
    sent (Ok y, v) e =
        let last : length v.frames ≡ suc (length w.frames) = one_is_sent w a b (place_of w a b number) y v e in
        subst (λ k. SettlesAfter w before (suc left) (further on (happens v (happening.Deliver k)))) (sym last) (comes y v e (happens v coming) refl)
    sent (Err y, v) e = refuses w v before left (next.Message a b number) y is (inl e) (λ room. not_both (happens w sending) (reply.Frame (taken room).frame) y v (taken room).sent e)

  by_next : (s : NextStep) → next_step w ≡ s → IsStep w s → SettlesAfter w before (suc left) (by_step on w before (stepped w s))
  by_next (next.Rule a r) is may = ruled a r is may (happens w (happening.Do a r)) refl
  by_next (next.Message a b number) is m = sent a b number is m (happens w (happening.Send a b (place_of w a b number))) refl
  by_next next.AllFinished is h = here w before (suc left) (Ok (Settled before), w) (refl, omega arith, omega arith, h)

settles : (plan : PlanValue) (laws : Laws plan) (w : World) (before left : ℕ) → Reached plan w → SettlesAfter w before left (settled w before left)
settles plan laws w before zero reached = at_last w before (next_step w) refl (laws.stuck w reached)
settles plan laws w before (suc left) reached =
    by_next plan laws w reached before left (λ v. settled v (before + 1) left) (λ v r. settles plan laws v (before + 1) left r) (next_step w) refl (laws.stuck w reached)

all : (most done : ℕ) (w : World) (t : Told) → EndsAfter 0 most done w t → Ends most done w t
all most done w (Ok (Settled n), v) (same, count, few, finished) = (same, omega (arith, count), omega (arith, count, few), finished)
all most done w (Ok (Open n), v) (same, count, few, some) = (same, omega (arith, count), omega (arith, count, few), some)
all most done w (Ok (Replied r), v) h = h
all most done w (Ok (Rules n), v) h = h
all most done w (Err r, v) h = h

pub worlds_settle_by_their_next_steps : NeverStuck → Always RulesAreDone → Always MessagesAreTaken → WorldsSettleByTheirNextSteps
worlds_settle_by_their_next_steps stuck rules messages w most reached plan =
    let laws : Laws w.plan = record {
      stuck = λ v r. subst (λ u. IsStep u (next_step u)) r.1 (stuck w.plan r.0 plan);
      rules = λ v r. subst RulesAreDone r.1 (rules w.plan r.0 plan.consistent);
      messages = λ v r. subst MessagesAreTaken r.1 (messages w.plan r.0 plan.consistent);
    } in
    let x = settles w.plan laws w 0 most (reached.events, reached.leads) in
    record { steps = x.steps; world = x.world; lead = x.lead; ends = all most (length x.steps) x.world (settled w 0 most) x.ends }
