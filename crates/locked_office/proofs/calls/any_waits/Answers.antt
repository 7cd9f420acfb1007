use Rattle.std.proofs.Common.{◌≡◌, ◌<◌, ◌∙◌, length, sym, ap, subst, arith, ⊎_elim}
use Rattle.std.proofs.lemmas.Bool.{cases_eq}
use Rattle.office_map.specs.PlanValue.{PlanValue}
use Rattle.office_map.specs.Consistency.{IsConsistent}
use Rattle.office_map.specs.NeighbourLaws.{near_within}
use Rattle.locked_office.specs.Sends.{WaitsFor}
use Rattle.locked_office.proofs.calls.any_waits.Goals as goal

pub loop-k-preserved : goal.loop-k-preserved
loop-k-preserved c = λ v n lt w. ⊎_elim
    (λ e. let here = c.one_waits.ensures.1 (n, subst (λ u. WaitsFor c.args.office.now u n) (e ∙ sym c.new.ensures) w) in absurd cc)
    (λ ne. c.loop-k.invariant v n (omega (arith, lt, ne)) w)
    (cases_eq v c.loop-k.k)

pub returns : goal.returns
returns c = (
  λ t. absurd cc,
  λ some.
      let (v, n, w) = some in
      let plan = c.args.office.now.plan in
      let ok : IsConsistent plan = subst IsConsistent c.plan.ensures c.offices-k-end.ensures.consistent in
      let count : length c.plan.result.now.offices ≡ length plan.offices = ap (λ (p : PlanValue). length p.offices) c.plan.ensures in
      let near : v < length plan.offices = near_within plan c.args.office.now.me v ok w.near in
      absurd (c.loop-k.invariant v n (omega (arith, near, count, c.offices-k-end.ensures.count, c.loop-k-test.false)) w),
)
