use Rattle.std.proofs.Common.{◌≡◌, ◌<◌, length, sym, ap, subst, ◌∙◌}
use Rattle.office_map.specs.PlanValue.{PlanValue}
use Rattle.office_map.specs.Consistency.{IsConsistent}
use Rattle.site_core.specs.neighbours.Pairs.{opened}
use Rattle.site_core.proofs.neighbours_lemmas.PairsOpening.{opening_pairs, opened_pairs}
use Rattle.site_core.proofs.neighbours.pairs.Pairs.open.Goals as goal

pub invariant_of-result : goal.invariant_of-result
invariant_of-result c =
    let same : c.in_ok-plan.plan ≡ c.args.plan.now = c.in_ok-plan.ensures in
    opening_pairs c.in_ok-plan.plan c.args.me c.in_ok-table.table c.in_ok-bar.bar c.in_ok-channels.channels c.opens_as_the_plan_starts.ensures
    (subst IsConsistent (sym same) c.offices.ensures.consistent) (subst (λ (p : PlanValue). c.args.me < length p.offices) (sym same) c.requires)
    c.in_ok-table.ensures c.in_ok-bar.ensures c.in_ok-channels.ensures

pub returns-clause-opened : goal.returns-clause-opened
returns-clause-opened c =
    let same : c.in_ok-plan.plan ≡ c.args.plan.now = c.in_ok-plan.ensures in
    opened_pairs c.in_ok-plan.plan c.args.me c.in_ok-table.table c.in_ok-bar.bar c.in_ok-channels.channels (subst IsConsistent (sym same) c.offices.ensures.consistent) c.in_ok-table.ensures c.in_ok-bar.ensures c.in_ok-channels.ensures
    ∙ ap (λ p. opened p c.args.me) same
