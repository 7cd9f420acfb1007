use Rattle.std.proofs.Common.{◌≡◌, ℕ, List, Option, None, Some, ◌+◌, ◌++◌, ◌∷◌, [], false, get_or, take, take_all, refl, ap, subst, ◌∙◌}
use Rattle.std.specs.String.{string_bytes}
use Rattle.std.specs.Io.KnownBytes.{Appends, append_known}
use Rattle.std.proofs.KnownBytes.{Appends-trans}
use Rattle.std.proofs.lemmas.Result.{err_from_is_err_and, on_ok_weaker}
use Rattle.world_schedule.proofs.reports_lemmas.Outgoings.{on_ok_so, unwritten_more, unwritten_of}
use Rattle.simulation.specs.scripts.Script.{acts_with}
use Rattle.simulation.specs.scripts.Runs.{run_of}
use Rattle.simulation.specs.scripts.Transcript.{told_report}
use Rattle.simulation.proofs.scripts_lemmas.Steps.{lines_of, run_longer, lines_longer}
use Rattle.simulation.proofs.scripts.transcript.tell_run.Goals as goal

-- nothing is told, and nothing is on its way
none_told : (held : Option (List ℕ)) (text : List ℕ) → text ≡ [] → Appends held (append_known held text) []
none_told None text none = tt
none_told (Some x) text none = ap (λ l. x ++ l) none

pub loop-event-init : goal.loop-event-init
loop-event-init g c = record {
  lines = none_told (g.W.Write.contents c.args.out.now) (string_bytes c.new-told.result.text) c.new-told.ensures.text;
  world = refl;
  still = λ h. refl;
}

pub loop-event-preserved : goal.loop-event-preserved
loop-event-preserved g c =
    let ps = c.args.programs.now in
    let es = c.args.events.now in
    let e = c.event-item.result in
    let i : ℕ = c.loop-event.event-index in
    let k = c.loop-event.invariant in
    let w = c.args.world.now in
    let v = c.loop-event.world in
    let v' = c.tell_event.new.world in
    let start = g.W.Write.contents c.args.out.now in
    let held = append_known (g.W.Write.contents c.loop-event.out) (string_bytes c.loop-event.told.text) in
    let now = append_known (g.W.Write.contents c.tell_event.new.out) (string_bytes c.tell_event.new.told.text) in
    let so_far = lines_of c.args.form w (acts_with ps (take i es)) in
    let here = lines_of c.args.form v (acts_with ps (get_or es i e ∷ [])) in
    let next : v' ≡ run_of v (acts_with ps (get_or es i e ∷ [])) = c.in_ok-tell_event.ensures.world ∙ ap (λ x. run_of v (acts_with ps (x ∷ []))) c.event-item.is in
    let line : Appends held now here = subst (λ x. Appends held now (lines_of c.args.form v (acts_with ps (x ∷ [])))) c.event-item.is c.in_ok-tell_event.ensures.line in
    let both : so_far ++ here ≡ lines_of c.args.form w (acts_with ps (take (i + 1) es)) = lines_longer ps w es i e c.loop-event-test.true c.args.form v so_far (so_far ++ here) k.world refl refl in
    record {
      lines = subst (Appends start now) both (Appends-trans start held now so_far here k.lines line);
      world = run_longer ps w es i e c.loop-event-test.true v v' k.world next;
      still = λ h. c.tell_event.ensures.still h ∙ k.still (c.tell_event.ensures.before h);
    }

pub returns-in_err-tell_event-clause-unwritten : goal.returns-in_err-tell_event-clause-unwritten
returns-in_err-tell_event-clause-unwritten g c =
    let e = err_from_is_err_and c.from_residual.result c.from_residual.ensures.1 in
    rw (e.1, e.2)
    (unwritten_more (c.tell_event.new.told.went ≡ false) (c.tell_event.new.out ≡ c.args.out.now) c.in_err-tell_event.field-0.0
    (λ h. c.tell_event.ensures.still h ∙ c.loop-event.invariant.still (c.tell_event.ensures.before h)) c.in_err-tell_event.ensures.fault)

pub returns-clause-written : goal.returns-clause-written
returns-clause-written g c =
    let ps = c.args.programs.now in
    let es = c.args.events.now in
    let k = c.loop-event.invariant in
    let w = c.args.world.now in
    let v = c.loop-event.world in
    let acts = acts_with ps es in
    let all : take c.loop-event.event-index es ≡ es = take_all c.loop-event.event-index es c.loop-event-test.false in
    let start = g.W.Write.contents c.args.out.now in
    let held = append_known (g.W.Write.contents c.loop-event.out) (string_bytes c.loop-event.told.text) in
    let now = g.W.Write.contents c.tell_report.new.out in
    let lines : Appends start held (lines_of c.args.form w acts) = subst (λ xs. Appends start held (lines_of c.args.form w (acts_with ps xs))) all k.lines in
    let world : v ≡ run_of w acts = k.world ∙ ap (λ xs. run_of w (acts_with ps xs)) all in
    let more : Appends held now (told_report c.args.form v) → Appends start now (lines_of c.args.form w acts ++ told_report c.args.form (run_of w acts)) =
    λ report. Appends-trans start held now (lines_of c.args.form w acts) (told_report c.args.form (run_of w acts)) lines (subst (λ u. Appends held now (told_report c.args.form u)) world report) in
    on_ok_weaker c.tell_report.result more c.tell_report.ensures.written

pub returns-clause-world : goal.returns-clause-world
returns-clause-world g c =
    let ps = c.args.programs.now in
    let es = c.args.events.now in
    let w = c.args.world.now in
    let all : take c.loop-event.event-index es ≡ es = take_all c.loop-event.event-index es c.loop-event-test.false in
    on_ok_so c.tell_report.result (c.loop-event.world ≡ run_of w (acts_with ps es)) (c.loop-event.invariant.world ∙ ap (λ xs. run_of w (acts_with ps xs)) all)

pub returns-clause-unwritten : goal.returns-clause-unwritten
returns-clause-unwritten g c =
    unwritten_of c.tell_report.result ((c.loop-event.told.went ≡ false) × (c.tell_report.new.out ≡ c.loop-event.out)) (c.tell_report.new.out ≡ c.args.out.now)
    (λ h. h.1 ∙ c.loop-event.invariant.still h.0) c.tell_report.ensures.unwritten
