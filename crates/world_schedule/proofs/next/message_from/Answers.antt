use Rattle.std.proofs.Common.{◌≡◌, ◌<◌, length, get_or, sym, ap, subst, ◌∙◌}
use Rattle.office_map.specs.PlanValue.{PlanValue, neighbours_of}
use Rattle.frame_world.specs.Standstill.{message_to}
use Rattle.world_schedule.proofs.NextSteps.{found_at, not_yet}
use Rattle.world_schedule.proofs.next.message_from.Goals as goal

pub returns-in-Some : goal.returns-in-Some
returns-in-Some c =
    let w = c.args.world.now in
    let near = c.neighbours-to-items.ensures.all ∙ ap (λ (p : PlanValue). neighbours_of p c.args.from) c.plan.ensures in
    let lt : c.loop-to.to-index < length (neighbours_of w.plan c.args.from) = subst (λ l. c.loop-to.to-index < length l) near c.loop-to-test.true in
    let is : c.to-item.result ≡ get_or (neighbours_of w.plan c.args.from) c.loop-to.to-index c.to-item.result = c.to-item.is ∙ ap (λ l. get_or l c.loop-to.to-index c.to-item.result) near in
    sym (found_at (message_to w c.args.from) (neighbours_of w.plan c.args.from) c.loop-to.to-index c.to-item.result c.to-item.result c.in-Some.message lt is c.loop-to.invariant (sym c.message_to.ensures ∙ c.in-Some.is))

pub loop-to-preserved : goal.loop-to-preserved
loop-to-preserved c =
    let w = c.args.world.now in
    let near = c.neighbours-to-items.ensures.all ∙ ap (λ (p : PlanValue). neighbours_of p c.args.from) c.plan.ensures in
    let lt : c.loop-to.to-index < length (neighbours_of w.plan c.args.from) = subst (λ l. c.loop-to.to-index < length l) near c.loop-to-test.true in
    let is : c.to-item.result ≡ get_or (neighbours_of w.plan c.args.from) c.loop-to.to-index c.to-item.result = c.to-item.is ∙ ap (λ l. get_or l c.loop-to.to-index c.to-item.result) near in
    not_yet (message_to w c.args.from) (neighbours_of w.plan c.args.from) c.loop-to.to-index c.to-item.result c.to-item.result lt is c.loop-to.invariant (sym c.message_to.ensures ∙ c.in_default.is)
