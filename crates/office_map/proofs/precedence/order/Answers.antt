use Rattle.std.proofs.Common.{◌≡◌, ◌∷◌, [], ◌++◌, ◌<◌, true, length, sym, ap, subst, arith, List, ℕ, length-append}
use Rattle.office_map.specs.Precedence.{IsNext}
use Rattle.office_map.proofs.LeastFirstOrders.{IsBegun, begun_more, begun_fits, whole}
use Rattle.office_map.proofs.precedence.order.Goals as goal
use Rattle.bottle_values.specs.Lists.{is_among}

pub loop-office-smaller : goal.loop-office-smaller
loop-office-smaller c =
    let next : IsNext c.args.tables.now c.loop-office.order.items c.in-Some.office = subst (λ (l : List ℕ). IsNext c.args.tables.now l c.in-Some.office) c.deref.ensures.value c.in-Some.ensures in
    omega (arith, begun_fits c.args.tables.now (c.loop-office.order.items ++ c.in-Some.office ∷ []) (begun_more c.args.tables.now c.loop-office.order.items c.in-Some.office c.loop-office.invariant next), ap length c.in_ok-push.ensures.items, length-append c.loop-office.order.items (c.in-Some.office ∷ []))

pub loop-office-preserved : goal.loop-office-preserved
loop-office-preserved c =
    let next : IsNext c.args.tables.now c.loop-office.order.items c.in-Some.office = subst (λ (l : List ℕ). IsNext c.args.tables.now l c.in-Some.office) c.deref.ensures.value c.in-Some.ensures in
    subst (λ (l : List ℕ). IsBegun c.args.tables.now l) (sym c.in_ok-push.ensures.items) (begun_more c.args.tables.now c.loop-office.order.items c.in-Some.office c.loop-office.invariant next)

pub returns-in-None : goal.returns-in-None
returns-in-None c =
    whole c.args.tables.now c.loop-office.order.items c.offices.ensures.consistent c.loop-office.invariant
    (subst (λ (l : List ℕ). (a : ℕ) → a < length c.args.tables.now.offices → is_among l a ≡ true) c.deref-2.ensures.value c.in-None.ensures)
