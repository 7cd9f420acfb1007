use Rattle.std.proofs.Common.{Err, ap, subst, ◌∙◌}
use Rattle.frame_world.specs.declared.event.WorldEvent.TheVariants as happening
use Rattle.frame_world.specs.declared.refusal.WorldRefusal.{WorldRefusal}
use Rattle.frame_world.specs.Worlds.{Applies}
use Rattle.simulation.proofs.random_lemmas.Running.{refused, unchanged}
use Rattle.simulation.proofs.random.submission.is_taken.Goals as goal

pub returns-in-Err-clause-refused : goal.returns-in-Err-clause-refused
returns-in-Err-clause-refused c = λ e.
    let p = c.args.program.now in
    refused c.args.world.now c.submit-answer.new.self p c.submit-answer.result c.in-Err.field-0 c.in-Err.is (λ m. c.in_ok-unless_memory.ensures (c.in-Err.is ∙ ap (λ (r : WorldRefusal). Err r) m))
    (subst (λ a. Applies c.args.world.now (happening.Submit a p) c.submit-answer.result c.submit-answer.new.self) c.office.ensures c.submit-answer.ensures)

pub returns-in-Err-clause-unchanged : goal.returns-in-Err-clause-unchanged
returns-in-Err-clause-unchanged c = λ e.
    let p = c.args.program.now in
    unchanged c.args.world.now c.submit-answer.new.self p c.submit-answer.result c.in-Err.field-0 c.in-Err.is
    (subst (λ a. Applies c.args.world.now (happening.Submit a p) c.submit-answer.result c.submit-answer.new.self) c.office.ensures c.submit-answer.ensures)
