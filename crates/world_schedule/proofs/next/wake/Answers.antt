use Rattle.std.proofs.Common.{◌≡◌, ◌<◌, length, sym, ap, subst, ◌∙◌, arith}
use Rattle.office_map.specs.PlanValue.{PlanValue}
use Rattle.office_map.specs.Consistency.{IsConsistent}
use Rattle.office_map.specs.NeighbourLaws.{near_within}
use Rattle.frame_world.specs.declared.next_step.NextStep.{NextStep}
use Rattle.frame_world.specs.declared.next_step.NextStep.TheVariants.{Rule, Message}
use Rattle.frame_world.specs.Standstill.{IsStep, IsNextMessage}
use Rattle.world_schedule.specs.Resting.{Resting, RestAfter}
use Rattle.world_schedule.proofs.RestingOffices.{rest_after_rule, rest_after_message}
use Rattle.world_schedule.proofs.next.wake.Goals as goal

pub wake-requires-in-Message : goal.wake-requires-in-Message
wake-requires-in-Message c =
    let w = c.args.world.now in
    let p = w.plan in
    let next : IsNextMessage w c.in-Message.field-0 c.in-Message.to c.in-Message.field-2 = subst (λ (s : NextStep). IsStep w s) c.in-Message.is c.requires.step in
    let within : c.in-Message.to < length p.offices = near_within p c.in-Message.field-0 c.in-Message.to (subst IsConsistent c.plan.ensures c.offices.ensures.consistent) next.near in
    let size : c.offices.result ≡ length p.offices = c.offices.ensures.count ∙ ap (λ (q : PlanValue). length q.offices) c.plan.ensures in
    let few = c.offices.ensures.few in
    omega (arith, within, size, few)

pub returns-in-Rule : goal.returns-in-Rule
returns-in-Rule c =
    let w = c.args.world.now in
    let rest = rest_after_rule c.links_only_grow.ensures w c.args.resting.now c.in-Rule.office c.in-Rule.field-1 c.requires.rest in
    subst (λ (s : NextStep). RestAfter w s c.wake.new.self) (sym c.in-Rule.is) (subst (λ (r : Resting). RestAfter w (Rule c.in-Rule.office c.in-Rule.field-1) r) (sym c.wake.ensures) rest)

pub returns-in-Message : goal.returns-in-Message
returns-in-Message c =
    let w = c.args.world.now in
    let rest = rest_after_message c.links_only_grow.ensures w c.args.resting.now c.in-Message.field-0 c.in-Message.to c.in-Message.field-2 c.requires.rest in
    subst (λ (s : NextStep). RestAfter w s c.wake-in-Message.new.self) (sym c.in-Message.is)
    (subst (λ (r : Resting). RestAfter w (Message c.in-Message.field-0 c.in-Message.to c.in-Message.field-2) r) (sym c.wake-in-Message.ensures) rest)
