use Rattle.std.proofs.Common.{length, ap, sym, ◌∙◌, arith}
use Rattle.office_map.specs.PlanValue.{PlanValue}
use Rattle.simulation.proofs.scripts_lemmas.Steps.{rule_at, stops, is_refused, is_done}
use Rattle.simulation.proofs.scripts.transcript.advance.Goals as goal

pub returns-in_default : goal.returns-in_default
returns-in_default c =
    let k = c.loop-done.invariant in
    let size = c.offices.ensures.count ∙ ap (λ (p : PlanValue). length p.offices) c.plan.ensures in
    let test = c.if-index-offices.false in
    let number = c.index.ensures in
    stops c.args.world.now c.loop-done.world c.args.office c.loop-done.done c.args.n (omega (arith, size, test, number)) k.same c.loop-done-test.true
    (sym (rule_at c.loop-done.world c.args.office c.office.result.now c.next_rule.result c.office.ensures.site c.office.ensures.plan c.office.ensures.number c.next_rule.ensures.first) ∙ c.in_default.is)

pub returns-in-Err : goal.returns-in-Err
returns-in-Err c =
    let k = c.loop-done.invariant in
    let size = c.offices.ensures.count ∙ ap (λ (p : PlanValue). length p.offices) c.plan.ensures in
    let test = c.if-index-offices.false in
    let number = c.index.ensures in
    is_refused c.args.world.now c.loop-done.world c.act.new.self c.args.office c.loop-done.done c.args.n c.in-Some.rule c.in-Err.refusal c.act.result (omega (arith, size, test, number)) k.same c.loop-done-test.true
    (sym (rule_at c.loop-done.world c.args.office c.office.result.now c.next_rule.result c.office.ensures.site c.office.ensures.plan c.office.ensures.number c.next_rule.ensures.first) ∙ c.in-Some.is)
    c.in-Err.is c.act.ensures

pub loop-done-preserved : goal.loop-done-preserved
loop-done-preserved c =
    let k = c.loop-done.invariant in
    let g = is_done c.args.world.now c.loop-done.world c.act.new.self c.args.office c.loop-done.done c.args.n c.in-Some.rule c.in_default-act.field-0 c.act.result k.plan k.same c.loop-done-test.true
    (sym (rule_at c.loop-done.world c.args.office c.office.result.now c.next_rule.result c.office.ensures.site c.office.ensures.plan c.office.ensures.number c.next_rule.ensures.first) ∙ c.in-Some.is)
    c.in_default-act.is c.act.ensures in
    record { plan = g.plan; few = g.few; same = g.same }
