use Rattle.std.proofs.Common.{[], ◌∷◌, length, ap, sym, subst, ◌∙◌}
use Rattle.std.specs.String.{string_bytes}
use Rattle.std.proofs.lemmas.Result.{err_from_is_err_and}
use Rattle.office_map.specs.PlanValue.{PlanValue}
use Rattle.serial_command.specs.Serial.{IsEndOf}
use Rattle.serial_command.proofs.Faults.{judged_memory}
use Rattle.serial_command.proofs.serial.run.Goals as goal

pub returns-in_err-found-clause-judged : goal.returns-in_err-found-clause-judged
returns-in_err-found-clause-judged g c =
    let e = err_from_is_err_and c.from_residual.result c.from_residual.ensures.1 in
    rw (e.1, e.2) c.in_err-found.ensures.judged

pub returns-in_err-found-clause-input : goal.returns-in_err-found-clause-input
returns-in_err-found-clause-input g c =
    let e = err_from_is_err_and c.from_residual.result c.from_residual.ensures.1 in
    rw (e.1, e.2) c.in_err-found.ensures.input

pub returns-in_err-ended-clause-judged : goal.returns-in_err-ended-clause-judged
returns-in_err-ended-clause-judged g c =
    let e = err_from_is_err_and c.from_residual-in_err-ended.result c.from_residual-in_err-ended.ensures.1 in
    rw (e.1, e.2)
    (judged_memory (g.S.Sources.file_text c.args.sources.now) (g.S.Sources.standard_text c.args.sources.now) (c.args.plan.now ∷ c.args.sessions.now ∷ []))

pub returns-clause-report : goal.returns-clause-report
returns-clause-report g c = λ plan_text sessions_text known.
    let it = c.in_ok-found.ensures.meaning plan_text sessions_text known in
    let done = c.in_ok-ended.ended in
    subst (λ p. IsEndOf c.args.form plan_text sessions_text p done.values.items (string_bytes done.text)) (sym c.in_ok-ended.ensures.plan)
    (record {
      programs = c.in_ok-found.found.programs.items;
      is_plan = it.0;
      are_sessions = it.1;
      is_report = c.in_ok-ended.ensures.report;
      are_values = c.in_ok-ended.ensures.values;
    })

pub returns-clause-size : goal.returns-clause-size
returns-clause-size g c = c.in_ok-ended.ensures.values.size ∙ sym (ap (λ (p : PlanValue). length p.records) c.in_ok-ended.ensures.plan)
