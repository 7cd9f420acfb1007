use Rattle.std.proofs.Common.{List, length, ap, sym, subst, ◌∙◌}
use Rattle.std.specs.String.{string_bytes}
use Rattle.std.proofs.lemmas.Result.{IfOk-weaker}
use Rattle.office_map.specs.PlanValue.{PlanValue}
use Rattle.bottle_values.specs.declared.Value.{Value}
use Rattle.serial_replay.specs.Serial.{ListsValues}
use Rattle.day_audits.specs.plans.NextPlans.{IsNextPlan}
use Rattle.day_audits.specs.ends.DayEnds.{end_map}
use Rattle.day_audits.proofs.ends.worlds.next_plan_of.Goals as goal

pub next_plan_with-requires : goal.next_plan_with-requires
next_plan_with-requires c =
    ap (λ (l : List Value). length l) c.deref.ensures.value ∙ c.in_ok-values.ensures.size ∙ sym (ap (λ (p : PlanValue). length p.records) c.plan.ensures)

pub returns : goal.returns
returns c =
    let w = c.args.world.now in
    let listed : ListsValues c.deref.result.now (length w.plan.records) (end_map w) = subst (λ l. ListsValues l (length w.plan.records) (end_map w)) (sym c.deref.ensures.value) c.in_ok-values.ensures in
    IfOk-weaker c.next_plan_with.result _ _
    (λ text h. subst (λ (p : PlanValue). IsNextPlan p (end_map w) (string_bytes text)) c.plan.ensures
    (h (end_map w) (subst (λ (p : PlanValue). ListsValues c.deref.result.now (length p.records) (end_map w)) (sym c.plan.ensures) listed)))
    c.next_plan_with.ensures
