use Rattle.std.proofs.Common.{◌≡◌, ◌≤◌, List, [], ◌∷◌, length, Some, refl, ap, sym, subst, ◌∙◌, inl, inr, rules}
use Rattle.std.specs.Prelude.{All, IsTrue}
use Rattle.std.specs.Option.{option_copied}
use Rattle.std.proofs.lemmas.Result.{err_from_is_err_and}
use Rattle.office_map.specs.PlanValue.{PlanValue}
use Rattle.session_meaning.specs.ProgramValue.{ProgramValue}
use Rattle.session_programs.specs.Program.{fits}
use Rattle.frame_world.specs.Worlds.{World}
use Rattle.frame_world.specs.WorldLaws.{seated}
use Rattle.command_outputs.specs.Days.{WritesEndOf}
use Rattle.drink_commands.specs.Texts.{NoOther, nothing}
use Rattle.serial_command.specs.declared.reading.input.Input.TheVariants as inputs
use Rattle.command_outputs.specs.declared.fault.Fault.TheVariants.{Memory, Text}
use Rattle.drink_commands.proofs.Faults.{at_end, at_first, at_next, judged, no_input, plan_taken, sessions_taken}
use Rattle.drink_commands.proofs.Reported.{ran, started}
use Rattle.drink_commands.proofs.commands.random.run.Goals as goal
use Rattle.simulation.specs.random.Runs.{events_of}

pub returns-in_err-plan-clause-judged : goal.returns-in_err-plan-clause-judged
returns-in_err-plan-clause-judged g c =
    let e = err_from_is_err_and c.from_residual.result c.from_residual.ensures.1 in
    let files = g.S.Sources.file_text c.args.sources.now in
    rw (e.1, e.2)
    (judged NoOther files (g.S.Sources.standard_text c.args.sources.now) c.new-standard.result (c.args.plan.now ∷ c.args.sessions.now ∷ []) (inputs.Plan ∷ inputs.Sessions ∷ []) (Text c.in_err-plan.field-0.0) (search rules)
    (at_first NoOther files c.new-standard.result c.args.plan.now (c.args.sessions.now ∷ []) nothing inputs.Plan (inputs.Sessions ∷ []) (Text c.in_err-plan.field-0.0) c.in_err-plan.ensures.fault))

pub returns-in_err-programs-clause-judged : goal.returns-in_err-programs-clause-judged
returns-in_err-programs-clause-judged g c =
    let e = err_from_is_err_and c.from_residual-in_err-programs.result c.from_residual-in_err-programs.ensures.1 in
    let files = g.S.Sources.file_text c.args.sources.now in
    rw (e.1, e.2)
    (judged NoOther files (g.S.Sources.standard_text c.args.sources.now) c.new-standard.result (c.args.plan.now ∷ c.args.sessions.now ∷ []) (inputs.Plan ∷ inputs.Sessions ∷ []) (Text c.in_err-programs.field-0.0) (search rules)
    (at_next NoOther files c.new-standard.result c.read_plan.new.standard c.args.plan.now (c.args.sessions.now ∷ []) nothing (record nothing { plan = Some c.in_ok-plan.plan }) inputs.Plan (inputs.Sessions ∷ []) (Text c.in_err-programs.field-0.0)
    (plan_taken files c.new-standard.result c.args.plan.now c.read_plan.new.standard c.in_ok-plan.plan c.in_ok-plan.ensures.meaning)
    (at_first NoOther files c.read_plan.new.standard c.args.sessions.now [] (record nothing { plan = Some c.in_ok-plan.plan }) inputs.Sessions [] (Text c.in_err-programs.field-0.0) c.in_err-programs.ensures.fault)))

pub returns-in_err-told-clause-judged : goal.returns-in_err-told-clause-judged
returns-in_err-told-clause-judged g c =
    let e = err_from_is_err_and c.from_residual-in_err-told.result c.from_residual-in_err-told.ensures.1 in
    let files = g.S.Sources.file_text c.args.sources.now in
    rw (e.1, e.2)
    (judged NoOther files (g.S.Sources.standard_text c.args.sources.now) c.new-standard.result (c.args.plan.now ∷ c.args.sessions.now ∷ []) (inputs.Plan ∷ inputs.Sessions ∷ []) Memory (search rules)
    (at_first NoOther files c.new-standard.result c.args.plan.now (c.args.sessions.now ∷ []) nothing inputs.Plan (inputs.Sessions ∷ []) Memory tt))

pub returns-in_err-write_whole-clause-judged : goal.returns-in_err-write_whole-clause-judged
returns-in_err-write_whole-clause-judged g c =
    let e = err_from_is_err_and c.from_residual-in_err-write_whole.result c.from_residual-in_err-write_whole.ensures.1 in
    let files = g.S.Sources.file_text c.args.sources.now in
    rw (e.1, e.2)
    (judged NoOther files (g.S.Sources.standard_text c.args.sources.now) c.new-standard.result (c.args.plan.now ∷ c.args.sessions.now ∷ []) (inputs.Plan ∷ inputs.Sessions ∷ []) c.in_err-write_whole.field-0.0 (search rules)
    (at_next NoOther files c.new-standard.result c.read_plan.new.standard c.args.plan.now (c.args.sessions.now ∷ []) nothing (record nothing { plan = Some c.in_ok-plan.plan }) inputs.Plan (inputs.Sessions ∷ []) c.in_err-write_whole.field-0.0
    (plan_taken files c.new-standard.result c.args.plan.now c.read_plan.new.standard c.in_ok-plan.plan c.in_ok-plan.ensures.meaning)
    (at_next NoOther files c.read_plan.new.standard c.read_coded_programs.new.standard c.args.sessions.now [] (record nothing { plan = Some c.in_ok-plan.plan }) (record nothing { plan = Some c.in_ok-plan.plan; programs = Some c.in_ok-programs.programs.items }) inputs.Sessions [] c.in_err-write_whole.field-0.0
    (sessions_taken files c.read_plan.new.standard c.args.sessions.now c.read_coded_programs.new.standard c.in_ok-plan.plan c.in_ok-programs.programs.items c.in_ok-programs.ensures.meaning)
    (at_end NoOther files c.read_coded_programs.new.standard (record nothing { plan = Some c.in_ok-plan.plan; programs = Some c.in_ok-programs.programs.items }) c.in_err-write_whole.field-0.0 (inl (no_input c.in_err-write_whole.field-0.0 c.in_err-write_whole.ensures.fault))))))

pub returns-in_err-write_end_of-clause-judged : goal.returns-in_err-write_end_of-clause-judged
returns-in_err-write_end_of-clause-judged g c =
    let e = err_from_is_err_and c.from_residual-in_err-write_end_of.result c.from_residual-in_err-write_end_of.ensures.1 in
    let files = g.S.Sources.file_text c.args.sources.now in
    rw (e.1, e.2)
    (judged NoOther files (g.S.Sources.standard_text c.args.sources.now) c.new-standard.result (c.args.plan.now ∷ c.args.sessions.now ∷ []) (inputs.Plan ∷ inputs.Sessions ∷ []) c.in_err-write_end_of.field-0.0 (search rules)
    (at_next NoOther files c.new-standard.result c.read_plan.new.standard c.args.plan.now (c.args.sessions.now ∷ []) nothing (record nothing { plan = Some c.in_ok-plan.plan }) inputs.Plan (inputs.Sessions ∷ []) c.in_err-write_end_of.field-0.0
    (plan_taken files c.new-standard.result c.args.plan.now c.read_plan.new.standard c.in_ok-plan.plan c.in_ok-plan.ensures.meaning)
    (at_next NoOther files c.read_plan.new.standard c.read_coded_programs.new.standard c.args.sessions.now [] (record nothing { plan = Some c.in_ok-plan.plan }) (record nothing { plan = Some c.in_ok-plan.plan; programs = Some c.in_ok-programs.programs.items }) inputs.Sessions [] c.in_err-write_end_of.field-0.0
    (sessions_taken files c.read_plan.new.standard c.args.sessions.now c.read_coded_programs.new.standard c.in_ok-plan.plan c.in_ok-programs.programs.items c.in_ok-programs.ensures.meaning)
    (at_end NoOther files c.read_coded_programs.new.standard (record nothing { plan = Some c.in_ok-plan.plan; programs = Some c.in_ok-programs.programs.items }) c.in_err-write_end_of.field-0.0 (inl (no_input c.in_err-write_end_of.field-0.0 c.in_err-write_end_of.ensures.fault))))))

pub write_end_of-requires-clause-fit : goal.write_end_of-requires-clause-fit
write_end_of-requires-clause-fit g c =
    let run = c.in_ok-told.ensures.run in
    let planned : c.in_ok-told.told.world.plan ≡ c.in_ok-plan.plan =
    sym (ap (λ (w : World). w.plan) run.leads.led) ∙ (seated c.in_ok-plan.plan (events_of run.leads.moves)).planned in
    subst (λ (p : PlanValue). All (λ (x : ProgramValue). IsTrue (fits p x)) c.deref-3.result.now) (sym planned)
    (subst (All (λ (x : ProgramValue). IsTrue (fits c.in_ok-plan.plan x))) (sym c.deref-3.ensures.value) c.in_ok-programs.ensures.fit)

pub write_end_of-requires-clause-few : goal.write_end_of-requires-clause-few
write_end_of-requires-clause-few g c = subst (λ (l : List ProgramValue). length l ≤ 1024) (sym c.deref-3.ensures.value) c.in_ok-programs.ensures.few

pub returns-clause-tells : goal.returns-clause-tells
returns-clause-tells g c = λ plan_text sessions_text known.
    let files = g.S.Sources.file_text c.args.sources.now in
    ran c.args.form files c.new-standard.result c.read_plan.new.standard c.read_coded_programs.new.standard c.args.plan.now c.args.sessions.now plan_text sessions_text
    c.in_ok-plan.plan c.in_ok-programs.programs.items c.deref.result.now c.args.schedule.loss c.args.schedule.steps (g.W.Write.contents c.args.out.now) (g.W.Write.contents c.write_whole.new.out) c.deref-2.result.now
    c.in_ok-told.told.world (option_copied c.args.next) (option_copied c.args.left) (g.T.Targets.written c.args.targets.now) (g.T.Targets.written c.write_end_of.new.targets)
    c.in_ok-plan.ensures.meaning c.in_ok-programs.ensures.meaning
    (started c.new-standard.result (g.S.Sources.standard_text c.args.sources.now) files (c.args.plan.now ∷ c.args.sessions.now ∷ []) (plan_text ∷ sessions_text ∷ []) (search rules) known) c.deref.ensures.value (search rules) c.in_ok-write_whole.ensures.written
    (subst (λ ps. WritesEndOf ps (option_copied c.args.next) (option_copied c.args.left) c.in_ok-told.told.world (g.T.Targets.written c.args.targets.now) (g.T.Targets.written c.write_end_of.new.targets)) (c.deref-3.ensures.value ∙ sym c.deref.ensures.value) c.in_ok-write_end_of.ensures.written)

pub returns-in_err-plan-clause-unwritten : goal.returns-in_err-plan-clause-unwritten
returns-in_err-plan-clause-unwritten g c =
    let e = err_from_is_err_and c.from_residual.result c.from_residual.ensures.1 in
    rw (e.1, e.2) (inr (refl, refl))

pub returns-in_err-programs-clause-unwritten : goal.returns-in_err-programs-clause-unwritten
returns-in_err-programs-clause-unwritten g c =
    let e = err_from_is_err_and c.from_residual-in_err-programs.result c.from_residual-in_err-programs.ensures.1 in
    rw (e.1, e.2) (inr (refl, refl))

pub returns-in_err-told-clause-unwritten : goal.returns-in_err-told-clause-unwritten
returns-in_err-told-clause-unwritten g c =
    let e = err_from_is_err_and c.from_residual-in_err-told.result c.from_residual-in_err-told.ensures.1 in
    rw (e.1, e.2) (inr (refl, refl))

pub returns-clause-status : goal.returns-clause-status
returns-clause-status g c = refl
