use Rattle.std.proofs.Common.{option_map, sym, ap, ◌∙◌}
use Rattle.frame_world.specs.declared.next_step.NextStep.TheVariants.{Rule}
use Rattle.world_schedule.proofs.NextSteps.{told_rule}
use Rattle.world_schedule.proofs.next.rule_at.Goals as goal

pub returns : goal.returns
returns c =
    let w = c.args.world.now in
    let x = c.args.office in
    let told = told_rule w c.office.result.now x c.next_rule.result c.office.ensures.site c.office.ensures.plan c.office.ensures.number c.next_rule.ensures.first in
    sym (sym told ∙ ap (option_map (Rule x)) c.in-Some.is)
