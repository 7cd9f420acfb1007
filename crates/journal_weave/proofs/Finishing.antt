-- Where sessions finish in a schedule that is accepted.
use Rattle.std.proofs.Common.{◌≡◌, ℕ, Bool, true, false, ◌&&◌, List, [], ◌∷◌, ◌++◌, map, Option, None, Some, Ok, Err, option_map, refl, sym, ap, subst, ◌∙◌, append_assoc, append-nil}
use Rattle.std.specs.Prelude.{IsOk, Result, is_some}
use Rattle.std.proofs.lemmas.List.{map-append}
use Rattle.frame_codec.specs.Frame.{Fields}
use Rattle.session_meaning.specs.declared.ending.Ending.{Ending}
use Rattle.session_machine.specs.Pieces.{ending_after}
use Rattle.drinking_core.specs.Drinkers.{is_drinking}
use Rattle.office_map.specs.PlanValue.{PlanValue}
use Rattle.site_core.specs.declared.agendas.session.Session.{Session}
use Rattle.site_core.specs.agendas.Agenda.{Current, Idle, Gathering, Working, writes_of}
use Rattle.office_journal.specs.declared.reply.Reply.{Reply}
use Rattle.office_journal.specs.declared.reply.Refusal.{Refusal}
use Rattle.office_journal.specs.declared.reply.Refusal.TheVariants as refusal
use Rattle.site_core.specs.Journals.{Site, office_of, recorded, step}
use Rattle.site_core.specs.Offices.{may, act, done_if}
use Rattle.office_journal.specs.declared.rule.Rule.{Rule}
use Rattle.office_journal.specs.declared.rule.Rule.TheVariants as rule
use Rattle.office_journal.specs.declared.event.Event.{Event}
use Rattle.office_journal.specs.declared.event.Event.TheVariants as event
use Rattle.frame_world.specs.declared.event.WorldEvent.{WorldEvent}
use Rattle.frame_world.specs.declared.event.WorldEvent.TheVariants as happening
use Rattle.frame_world.specs.Worlds.{World, Finished, opening, site_at, office_at, finished_by, ended, ended_as, handed, delivered, frame_at, happens, run_of, AreAccepted}
use Rattle.journal_weave.specs.Following.{Gives}
use Rattle.journal_weave.proofs.AcceptedEvents.{note, Grows, grows, grows_to, reply_in}
use Rattle.journal_weave.specs.refinement.Finishers.{finishes_at, finishers}

abbrev pub offices_of : List Finished → List ℕ
offices_of fs = map (λ (f : Finished). f.outcome.office) fs

-- an accepted event lists the sessions that it finishes, as `finishes_at` says
abbrev pub Finishes : World → WorldEvent → Type 0
Finishes w e = offices_of (happens w e).1.finished ≡ offices_of w.finished ++ finishes_at e

-- so it is of all
pub all_finish : ((w : World) (e : WorldEvent) → IsOk (happens w e).0 → Finishes w e) → (w : World) (es : List WorldEvent) → AreAccepted w es → offices_of (run_of w es).finished ≡ offices_of w.finished ++ finishers es
all_finish one w [] ok = sym (append-nil (offices_of w.finished))
all_finish one w (e ∷ es) (ok, oks) =
    all_finish one (happens w e).1 es oks ∙ ap (λ l. l ++ finishers es) (one w e ok) ∙ append_assoc (offices_of w.finished) (finishes_at e) (finishers es)

-- ---- one event

none_more : (w w' : World) (more : List Finished) → w'.finished ≡ w.finished ++ more → more ≡ [] → offices_of w'.finished ≡ offices_of w.finished ++ []
none_more w w' more is none = ap offices_of (is ∙ ap (λ l. w.finished ++ l) none) ∙ map-append (λ (f : Finished). f.outcome.office) w.finished []

ending_is : (a : ℕ) (s : Session) (o : Option Ending) → is_some (option_map (λ (e : Ending). e.writes) o) ≡ true → offices_of (ended_as a s o) ≡ a ∷ []
ending_is a s None h = absurd (cc)
ending_is a s (Some e) h = refl

ended_at : (a : ℕ) (c : Current) → is_some (writes_of c) ≡ true → offices_of (ended a c) ≡ a ∷ []
ended_at a Idle h = absurd (cc)
ended_at a (Gathering s) h = absurd (cc)
ended_at a (Working s reads done) h = ending_is a s (ending_after s.program reads done) h

and_false : (b : Bool) → (b && false) ≡ false
and_false true = refl
and_false false = refl

-- an office that gives its finish may finish
may_finish : (s : Site) (r : Reply) → Gives s (note (event.Do rule.Finish) r) → is_some (writes_of (office_of s).agenda.current) ≡ true
may_finish s r g = by (is_drinking (office_of s).pairs.drinker.phase) (is_some (writes_of (office_of s).agenda.current)) refl refl
  where
    e : Event
    e = event.Do rule.Finish

    by : (d m : Bool) → is_drinking (office_of s).pairs.drinker.phase ≡ d → is_some (writes_of (office_of s).agenda.current) ≡ m → is_some (writes_of (office_of s).agenda.current) ≡ true
    by d true drinks is = is
    by d false drinks is =
        let no : may s.plan s.me (office_of s) rule.Finish ≡ false = ap (λ x. is_drinking (office_of s).pairs.drinker.phase && x) is ∙ and_false (is_drinking (office_of s).pairs.drinker.phase) in
        let refused : step s 0 e ≡ (Err refusal.NotNow, s) = ap (λ x. recorded s 0 e (done_if x (act s.me (office_of s) rule.Finish))) no in
        let both : ◌≡◌ {A = Result Reply Refusal} (Err refusal.NotNow) (Ok r) = ap (λ y. y.0) (sym refused ∙ g) in
        absurd (cc)

-- what an office's event lists
at_place : (w : World) (a : ℕ) (ev : Event) (e : WorldEvent) → happens w e ≡ handed w a ev → IsOk (happens w e).0 → (r : Reply) × Grows w a ev r × ((happens w e).1.finished ≡ w.finished ++ finished_by a (office_at w a).agenda.current ev)
at_place w a ev e is ok =
    let r = reply_in (happens w e).0 ok in
    let g = grows w a ev r.0 (sym (ap (λ x. x.0) is) ∙ r.1) in
    (r.0, g, ap (λ x. x.1.finished) (is ∙ grows_to w a ev r.0 g))

by_rule : (w : World) (a : ℕ) (x : Rule) → IsOk (happens w (happening.Do a x)).0 → Finishes w (happening.Do a x)
by_rule w a rule.Finish ok =
    let h = at_place w a (event.Do rule.Finish) (happening.Do a rule.Finish) refl ok in
    let c : Current = (office_at w a).agenda.current in
    ap offices_of h.2 ∙ map-append (λ (f : Finished). f.outcome.office) w.finished (ended a c) ∙ ap (λ l. offices_of w.finished ++ l) (ended_at a c (may_finish (site_at w a) h.0 h.1.gives))
by_rule w a rule.Start ok = none_more w (happens w (happening.Do a rule.Start)).1 [] ((at_place w a (event.Do rule.Start) (happening.Do a rule.Start) refl ok).2) refl
by_rule w a rule.Hungry ok = none_more w (happens w (happening.Do a rule.Hungry)).1 [] ((at_place w a (event.Do rule.Hungry) (happening.Do a rule.Hungry) refl ok).2) refl
by_rule w a (rule.AskFork v) ok = none_more w (happens w (happening.Do a (rule.AskFork v))).1 [] ((at_place w a (event.Do (rule.AskFork v)) (happening.Do a (rule.AskFork v)) refl ok).2) refl
by_rule w a (rule.GiveFork v) ok = none_more w (happens w (happening.Do a (rule.GiveFork v))).1 [] ((at_place w a (event.Do (rule.GiveFork v)) (happening.Do a (rule.GiveFork v)) refl ok).2) refl
by_rule w a rule.Eat ok = none_more w (happens w (happening.Do a rule.Eat)).1 [] ((at_place w a (event.Do rule.Eat) (happening.Do a rule.Eat) refl ok).2) refl
by_rule w a rule.Leave ok = none_more w (happens w (happening.Do a rule.Leave)).1 [] ((at_place w a (event.Do rule.Leave) (happening.Do a rule.Leave) refl ok).2) refl
by_rule w a (rule.AskBottle q) ok = none_more w (happens w (happening.Do a (rule.AskBottle q))).1 [] ((at_place w a (event.Do (rule.AskBottle q)) (happening.Do a (rule.AskBottle q)) refl ok).2) refl
by_rule w a (rule.GiveBottle q) ok = none_more w (happens w (happening.Do a (rule.GiveBottle q))).1 [] ((at_place w a (event.Do (rule.GiveBottle q)) (happening.Do a (rule.GiveBottle q)) refl ok).2) refl
by_rule w a rule.Drink ok = none_more w (happens w (happening.Do a rule.Drink)).1 [] ((at_place w a (event.Do rule.Drink) (happening.Do a rule.Drink) refl ok).2) refl
by_rule w a (rule.Work n) ok = none_more w (happens w (happening.Do a (rule.Work n))).1 [] ((at_place w a (event.Do (rule.Work n)) (happening.Do a (rule.Work n)) refl ok).2) refl

one_finishes : (w : World) (e : WorldEvent) → IsOk (happens w e).0 → Finishes w e
one_finishes w (happening.Submit a p) ok = none_more w (happens w (happening.Submit a p)).1 [] ((at_place w a (event.Submit p) (happening.Submit a p) refl ok).2) refl
one_finishes w (happening.Withdraw a t) ok = none_more w (happens w (happening.Withdraw a t)).1 [] ((at_place w a (event.Withdraw t) (happening.Withdraw a t) refl ok).2) refl
one_finishes w (happening.Do a x) ok = by_rule w a x ok
one_finishes w (happening.Send a v i) ok = none_more w (happens w (happening.Send a v i)).1 [] ((at_place w a (event.Send v i) (happening.Send a v i) refl ok).2) refl
one_finishes w (happening.Deliver k) ok = of (frame_at w k) refl
  where
    of : (o : Option Fields) → frame_at w k ≡ o → Finishes w (happening.Deliver k)
    of None is = absurd (let no : IsOk (delivered w None).0 = subst (λ x. IsOk (delivered w x).0) is ok in cc)
    of (Some f) is = none_more w (happens w (happening.Deliver k)).1 [] ((at_place w f.to (event.Took f) (happening.Deliver k) (ap (delivered w) is) ok).2) refl

pub where_finished : (plan : PlanValue) (es : List WorldEvent) → AreAccepted (opening plan) es → offices_of (run_of (opening plan) es).finished ≡ finishers es
where_finished plan es ok = all_finish one_finishes (opening plan) es ok

-- one event more
pub finishers_more : (es : List WorldEvent) (e : WorldEvent) → finishers (es ++ e ∷ []) ≡ finishers es ++ finishes_at e
finishers_more [] e = append-nil (finishes_at e)
finishers_more (x ∷ es) e = ap (λ l. finishes_at x ++ l) (finishers_more es e) ∙ sym (append_assoc (finishes_at x) (finishers es) (finishes_at e))
