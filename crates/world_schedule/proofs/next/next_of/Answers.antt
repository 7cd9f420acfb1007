use Rattle.std.proofs.Common.{◌≡◌, ◌<◌, ◌≤◌, length, sym, ap, ◌∙◌, arith}
use Rattle.office_map.specs.PlanValue.{PlanValue}
use Rattle.world_schedule.specs.refinement.Marks.{step_at}
use Rattle.world_schedule.proofs.NextSteps.{found_in, none_yet, none_in}
use Rattle.world_schedule.proofs.next.next_of.Goals as goal

pub returns-in-Some-clause-step : goal.returns-in-Some-clause-step
returns-in-Some-clause-step c =
    let w = c.args.world.now in
    let size : c.offices-a-end.result ≡ length w.plan.offices = c.offices-a-end.ensures.count ∙ ap (λ (p : PlanValue). length p.offices) c.plan.ensures in
    let test = c.loop-a-test.true in
    let lt : c.loop-a.a < length w.plan.offices = omega (arith, size, test) in
    sym (found_in (step_at c.args.sought w) (length w.plan.offices) c.loop-a.a c.loop-a.invariant.none c.new.result c.in-Some.found lt c.new.ensures (sym c.step_at.ensures.step ∙ c.in-Some.is))

pub loop-a-preserved : goal.loop-a-preserved
loop-a-preserved c =
    let w = c.args.world.now in
    let size : c.offices-a-end.result ≡ length w.plan.offices = c.offices-a-end.ensures.count ∙ ap (λ (p : PlanValue). length p.offices) c.plan.ensures in
    let test = c.loop-a-test.true in
    let lt : c.loop-a.a < length w.plan.offices = omega (arith, size, test) in
    record {
      none = none_yet (step_at c.args.sought w) (length w.plan.offices) c.loop-a.a c.loop-a.invariant.none c.new.result lt c.new.ensures (sym c.step_at.ensures.step ∙ c.in_default.is);
      rest = c.step_at.ensures.rest;
    }

pub returns-clause-step : goal.returns-clause-step
returns-clause-step c =
    let w = c.args.world.now in
    let size : c.offices-a-end.result ≡ length w.plan.offices = c.offices-a-end.ensures.count ∙ ap (λ (p : PlanValue). length p.offices) c.plan.ensures in
    let test = c.loop-a-test.false in
    let le : length w.plan.offices ≤ c.loop-a.a = omega (arith, size, test) in
    sym (none_in (step_at c.args.sought w) (length w.plan.offices) c.loop-a.a c.loop-a.invariant.none le)
