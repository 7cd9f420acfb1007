use Rattle.std.proofs.Common.{[], length, refl, sym, ap, ◌∙◌}
use Rattle.office_map.specs.PlanValue.{PlanValue}
use Rattle.day_audits.proofs.audit_lemmas.Following.{gathers_nothing}
use Rattle.day_audits.proofs.audit.journals.Journals.new.Goals as goal

pub invariant_of-result : goal.invariant_of-result
invariant_of-result c =
    let p = c.in_ok-plan.plan in
    let slots = c.in_ok-slots.slots.items in
    let one_each = c.in_ok-slots.ensures.size ∙ c.offices.ensures.count in
    ([], gathers_nothing p p slots refl (one_each ∙ ap (λ (x : PlanValue). length x.offices) (sym c.in_ok-plan.ensures)) c.in_ok-slots.ensures.empty)

pub returns : goal.returns
returns c = gathers_nothing c.args.plan.now c.in_ok-plan.plan c.in_ok-slots.slots.items c.in_ok-plan.ensures (c.in_ok-slots.ensures.size ∙ c.offices.ensures.count) c.in_ok-slots.ensures.empty
