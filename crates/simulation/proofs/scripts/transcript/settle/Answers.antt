use Rattle.std.proofs.Common.{Some, ap, subst, ◌∙◌, arith}
use Rattle.simulation.specs.scripts.Runs.{stepped}
use Rattle.simulation.specs.scripts.refinement.Steps.{AnswersStep}
use Rattle.simulation.proofs.scripts_lemmas.Steps.{step_refused, step_done, still_resting}
use Rattle.simulation.proofs.scripts.transcript.settle.Goals as goal

pub returns-in-Some-Err : goal.returns-in-Some-Err
returns-in-Some-Err c =
    let v = c.loop-done.world in
    step_refused c.args.world.now v c.take_step.new.world c.loop-done.done c.args.most c.next_step_asking-step.result c.in-Some-Err.refusal c.loop-done.invariant.same c.loop-done-test.true c.next_step_asking-step.ensures.step
    (subst (λ r. AnswersStep v (stepped v c.next_step_asking-step.result) r c.take_step.new.world) (c.in-Some-Err.is ∙ ap Some c.in-Some-Err.field-0-is) c.take_step.ensures)

pub loop-done-preserved : goal.loop-done-preserved
loop-done-preserved c =
    let v = c.loop-done.world in
    let lt = c.loop-done-test.true in
    let answered = subst (λ r. AnswersStep v (stepped v c.next_step_asking-step.result) r c.take_step.new.world) (c.in-Some-Ok.is ∙ ap Some c.in-Some-Ok.field-0-is) c.take_step.ensures in
    record {
      few = omega (arith, lt);
      same = step_done c.args.world.now v c.take_step.new.world c.loop-done.done c.args.most c.next_step_asking-step.result c.in-Some-Ok.field-0-0 c.loop-done.invariant.same c.loop-done-test.true c.next_step_asking-step.ensures.step
          answered;
      rest = still_resting v c.take_step.new.world c.next_step_asking-step.result c.in-Some-Ok.field-0-0 c.next_step_asking-step.new.resting answered c.next_step_asking-step.ensures.rest;
    }
