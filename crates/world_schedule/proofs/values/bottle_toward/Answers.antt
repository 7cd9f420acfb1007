use Rattle.std.proofs.Common.{◌≡◌, [], subst, sym}
use Rattle.std.specs.Prelude.{IfNone}
use Rattle.world_schedule.specs.refinement.Bottles.{bottles_toward}
use Rattle.world_schedule.proofs.BottlesOnTheWay.{is_on_way, none_on_way, nothing_waits}
use Rattle.world_schedule.proofs.values.bottle_toward.Goals as goal

pub returns-in_err-number-clause-none : goal.returns-in_err-number-clause-none
returns-in_err-number-clause-none c =
    let s = c.args.from.now in
    let t = c.args.to.now in
    subst (λ x. IfNone x (bottles_toward s t c.args.r ≡ [])) (sym c.from_residual.ensures) (nothing_waits s t c.args.r c.requires c.in_err-number.ensures.told)

pub returns-then-taken-number-clause-some : goal.returns-then-taken-number-clause-some
returns-then-taken-number-clause-some c =
    is_on_way c.args.from.now c.args.to.now c.args.r c.number.result c.in_ok-number.number c.in_ok-taken.taken c.in_ok-number.value c.requires c.in_ok-number.ensures.told c.number.ensures c.in_ok-taken.ensures c.if-taken-number.true

pub returns-else-taken-number-clause-none : goal.returns-else-taken-number-clause-none
returns-else-taken-number-clause-none c =
    none_on_way c.args.from.now c.args.to.now c.args.r c.number.result c.in_ok-number.number c.in_ok-taken.taken c.in_ok-number.value c.requires c.in_ok-number.ensures.told c.in_ok-number.ensures.once c.number.ensures c.in_ok-taken.ensures c.if-taken-number.false
