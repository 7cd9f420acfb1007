use Rattle.std.proofs.Common.{sym, subst, ◌∙◌}
use Rattle.world_schedule.specs.Resting.{Resting, RestIn}
use Rattle.world_schedule.proofs.RestingOffices.{marked_has_none, marked_rests}
use Rattle.world_schedule.proofs.next.step_at.Goals as goal

pub returns-then-has_none-clause-step : goal.returns-then-has_none-clause-step
returns-then-has_none-clause-step c =
    sym (marked_has_none c.args.world.now c.args.resting.now c.args.sought c.args.office c.requires.rest (sym c.has_none.ensures ∙ c.if-has_none.true))

pub returns-in_default-clause-rest : goal.returns-in_default-clause-rest
returns-in_default-clause-rest c =
    let w = c.args.world.now in
    let rest = marked_rests w c.args.resting.now c.args.sought c.args.office c.requires.rest (sym c.found_at.ensures ∙ c.in_default.is) in
    subst (λ (r : Resting). RestIn w r) (sym c.found_none.ensures) rest
