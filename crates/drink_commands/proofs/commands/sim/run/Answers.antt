use Rattle.std.specs.Option.{option_copied}
use Rattle.std.proofs.Common.{◌≡◌, ℕ, List, [], ◌∷◌, Some, sym, subst, ap₂, ◌∙◌, refl, inl, inr, rules}
use Rattle.std.proofs.lemmas.Result.{err_from_is_err_and}
use Rattle.simulation.specs.scripts.Script.{IsScript, acts_with}
use Rattle.host_files.specs.inputs.Words.{HasText, Unread}
use Rattle.command_outputs.specs.Fault.{IsFaultAt}
use Rattle.drink_commands.specs.Texts.{NoOther, Refuses, nothing}
use Rattle.serial_command.specs.declared.reading.input.Input.TheVariants as inputs
use Rattle.command_outputs.specs.declared.fault.Fault.TheVariants.{Text}
use Rattle.drink_commands.proofs.Faults.{at_end, at_first, at_next, judged, plan_taken, script_taken, sessions_taken}
use Rattle.drink_commands.proofs.Reported.{simulated, started}
use Rattle.drink_commands.proofs.Running.{err_more, on_three}
use Rattle.drink_commands.proofs.commands.sim.run.Goals as goal

pub returns-in_err-plan-clause-judged : goal.returns-in_err-plan-clause-judged
returns-in_err-plan-clause-judged g c =
    let e = err_from_is_err_and c.from_residual.result c.from_residual.ensures.1 in
    let files = g.S.Sources.file_text c.args.sources.now in
    rw (e.1, e.2)
    (judged NoOther files (g.S.Sources.standard_text c.args.sources.now) c.new-standard.result (c.args.plan.now ∷ c.args.sessions.now ∷ c.args.script.now ∷ []) (inputs.Plan ∷ inputs.Sessions ∷ inputs.Script ∷ []) (Text c.in_err-plan.field-0.0) (search rules)
    (at_first NoOther files c.new-standard.result c.args.plan.now (c.args.sessions.now ∷ c.args.script.now ∷ []) nothing inputs.Plan (inputs.Sessions ∷ inputs.Script ∷ []) (Text c.in_err-plan.field-0.0) c.in_err-plan.ensures.fault))

pub returns-in_err-programs-clause-judged : goal.returns-in_err-programs-clause-judged
returns-in_err-programs-clause-judged g c =
    let e = err_from_is_err_and c.from_residual-in_err-programs.result c.from_residual-in_err-programs.ensures.1 in
    let files = g.S.Sources.file_text c.args.sources.now in
    rw (e.1, e.2)
    (judged NoOther files (g.S.Sources.standard_text c.args.sources.now) c.new-standard.result (c.args.plan.now ∷ c.args.sessions.now ∷ c.args.script.now ∷ []) (inputs.Plan ∷ inputs.Sessions ∷ inputs.Script ∷ []) (Text c.in_err-programs.field-0.0) (search rules)
    (at_next NoOther files c.new-standard.result c.read_plan.new.standard c.args.plan.now (c.args.sessions.now ∷ c.args.script.now ∷ []) nothing (record nothing { plan = Some c.in_ok-plan.plan }) inputs.Plan (inputs.Sessions ∷ inputs.Script ∷ []) (Text c.in_err-programs.field-0.0)
    (plan_taken files c.new-standard.result c.args.plan.now c.read_plan.new.standard c.in_ok-plan.plan c.in_ok-plan.ensures.meaning)
    (at_first NoOther files c.read_plan.new.standard c.args.sessions.now (c.args.script.now ∷ []) (record nothing { plan = Some c.in_ok-plan.plan }) inputs.Sessions (inputs.Script ∷ []) (Text c.in_err-programs.field-0.0) c.in_err-programs.ensures.fault)))

pub returns-in_err-events-clause-judged : goal.returns-in_err-events-clause-judged
returns-in_err-events-clause-judged g c =
    let e = err_from_is_err_and c.from_residual-in_err-events.result c.from_residual-in_err-events.ensures.1 in
    let files = g.S.Sources.file_text c.args.sources.now in
    rw (e.1, e.2)
    (judged NoOther files (g.S.Sources.standard_text c.args.sources.now) c.new-standard.result (c.args.plan.now ∷ c.args.sessions.now ∷ c.args.script.now ∷ []) (inputs.Plan ∷ inputs.Sessions ∷ inputs.Script ∷ []) c.in_err-events.field-0.0 (search rules)
    (at_next NoOther files c.new-standard.result c.read_plan.new.standard c.args.plan.now (c.args.sessions.now ∷ c.args.script.now ∷ []) nothing (record nothing { plan = Some c.in_ok-plan.plan }) inputs.Plan (inputs.Sessions ∷ inputs.Script ∷ []) c.in_err-events.field-0.0
    (plan_taken files c.new-standard.result c.args.plan.now c.read_plan.new.standard c.in_ok-plan.plan c.in_ok-plan.ensures.meaning)
    (at_next NoOther files c.read_plan.new.standard c.read_coded_programs.new.standard c.args.sessions.now (c.args.script.now ∷ []) (record nothing { plan = Some c.in_ok-plan.plan }) (record nothing { plan = Some c.in_ok-plan.plan; programs = Some c.in_ok-programs.programs.items }) inputs.Sessions (inputs.Script ∷ []) c.in_err-events.field-0.0
    (sessions_taken files c.read_plan.new.standard c.args.sessions.now c.read_coded_programs.new.standard c.in_ok-plan.plan c.in_ok-programs.programs.items c.in_ok-programs.ensures.meaning)
    (at_first NoOther files c.read_coded_programs.new.standard c.args.script.now [] (record nothing { plan = Some c.in_ok-plan.plan; programs = Some c.in_ok-programs.programs.items }) inputs.Script [] c.in_err-events.field-0.0
    (subst (λ ps. IsFaultAt inputs.Script (λ why. (text : List ℕ) (after : Unread) → HasText files c.read_coded_programs.new.standard c.args.script.now text after
    → Refuses (record nothing { plan = Some c.in_ok-plan.plan; programs = Some ps }) text why) c.in_err-events.field-0.0) c.deref.ensures.value c.in_err-events.ensures.fault)))))

pub returns-clause-judged : goal.returns-clause-judged
returns-clause-judged g c =
    let files = g.S.Sources.file_text c.args.sources.now in
    err_more c.tell.result _ _ (λ f h.
    (judged NoOther files (g.S.Sources.standard_text c.args.sources.now) c.new-standard.result (c.args.plan.now ∷ c.args.sessions.now ∷ c.args.script.now ∷ []) (inputs.Plan ∷ inputs.Sessions ∷ inputs.Script ∷ []) f (search rules)
    (at_next NoOther files c.new-standard.result c.read_plan.new.standard c.args.plan.now (c.args.sessions.now ∷ c.args.script.now ∷ []) nothing (record nothing { plan = Some c.in_ok-plan.plan }) inputs.Plan (inputs.Sessions ∷ inputs.Script ∷ []) f
    (plan_taken files c.new-standard.result c.args.plan.now c.read_plan.new.standard c.in_ok-plan.plan c.in_ok-plan.ensures.meaning)
    (at_next NoOther files c.read_plan.new.standard c.read_coded_programs.new.standard c.args.sessions.now (c.args.script.now ∷ []) (record nothing { plan = Some c.in_ok-plan.plan }) (record nothing { plan = Some c.in_ok-plan.plan; programs = Some c.in_ok-programs.programs.items }) inputs.Sessions (inputs.Script ∷ []) f
    (sessions_taken files c.read_plan.new.standard c.args.sessions.now c.read_coded_programs.new.standard c.in_ok-plan.plan c.in_ok-programs.programs.items c.in_ok-programs.ensures.meaning)
    (at_next NoOther files c.read_coded_programs.new.standard c.read_events.new.standard c.args.script.now [] (record nothing { plan = Some c.in_ok-plan.plan; programs = Some c.in_ok-programs.programs.items }) (record { plan = Some c.in_ok-plan.plan; programs = Some c.in_ok-programs.programs.items; acts = Some (acts_with c.deref.result.now c.in_ok-events.events.items) }) inputs.Script [] f
    (script_taken files c.read_coded_programs.new.standard c.args.script.now c.read_events.new.standard c.in_ok-plan.plan c.in_ok-programs.programs.items (acts_with c.deref.result.now c.in_ok-events.events.items)
    (λ text after has. subst (λ ps. IsScript c.in_ok-plan.plan ps text (acts_with c.deref.result.now c.in_ok-events.events.items) × (c.read_events.new.standard ≡ after)) c.deref.ensures.value (c.in_ok-events.ensures.meaning text after has)))
    (at_end NoOther files c.read_events.new.standard (record { plan = Some c.in_ok-plan.plan; programs = Some c.in_ok-programs.programs.items; acts = Some (acts_with c.deref.result.now c.in_ok-events.events.items) }) f (inl h))))))) c.tell.ensures.fault

pub returns-clause-simulates : goal.returns-clause-simulates
returns-clause-simulates g c =
    let files = g.S.Sources.file_text c.args.sources.now in
    let acts = acts_with c.deref-2.result.now c.deref-3.result.now in
    on_three c.tell.result _ _ _ _ (λ written serial leaves plan_text sessions_text script_text known.
    simulated c.args.form files c.new-standard.result c.read_plan.new.standard c.read_coded_programs.new.standard c.read_events.new.standard c.args.plan.now c.args.sessions.now c.args.script.now
    plan_text sessions_text script_text c.in_ok-plan.plan c.in_ok-programs.programs.items (acts_with c.deref.result.now c.in_ok-events.events.items) acts
    (option_copied c.args.journals) (option_copied c.args.next) (option_copied c.args.left) (g.W.Write.contents c.args.out.now) (g.W.Write.contents c.tell.new.out) (g.T.Targets.written c.args.targets.now) (g.T.Targets.written c.tell.new.targets)
    c.in_ok-plan.ensures.meaning c.in_ok-programs.ensures.meaning
    (λ text after has. subst (λ ps. IsScript c.in_ok-plan.plan ps text (acts_with c.deref.result.now c.in_ok-events.events.items) × (c.read_events.new.standard ≡ after)) c.deref.ensures.value (c.in_ok-events.ensures.meaning text after has))
    (started c.new-standard.result (g.S.Sources.standard_text c.args.sources.now) files (c.args.plan.now ∷ c.args.sessions.now ∷ c.args.script.now ∷ []) (plan_text ∷ sessions_text ∷ script_text ∷ []) (search rules) known)
    (ap₂ acts_with (c.deref-2.ensures.value ∙ sym c.deref.ensures.value) c.deref-3.ensures.value) serial written leaves)
    c.tell.ensures.written c.tell.ensures.serial c.tell.ensures.files

pub returns-in_err-plan-clause-unwritten : goal.returns-in_err-plan-clause-unwritten
returns-in_err-plan-clause-unwritten g c =
    let e = err_from_is_err_and c.from_residual.result c.from_residual.ensures.1 in
    rw (e.1, e.2) (inr (refl, refl))

pub returns-in_err-programs-clause-unwritten : goal.returns-in_err-programs-clause-unwritten
returns-in_err-programs-clause-unwritten g c =
    let e = err_from_is_err_and c.from_residual-in_err-programs.result c.from_residual-in_err-programs.ensures.1 in
    rw (e.1, e.2) (inr (refl, refl))

pub returns-in_err-events-clause-unwritten : goal.returns-in_err-events-clause-unwritten
returns-in_err-events-clause-unwritten g c =
    let e = err_from_is_err_and c.from_residual-in_err-events.result c.from_residual-in_err-events.ensures.1 in
    rw (e.1, e.2) (inr (refl, refl))

pub returns-clause-status : goal.returns-clause-status
returns-clause-status g c = c.tell.ensures.status

pub returns-clause-unwritten : goal.returns-clause-unwritten
returns-clause-unwritten g c = c.tell.ensures.unwritten
