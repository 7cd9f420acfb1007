use Rattle.std.proofs.Common.{rules, ap}
use Rattle.own_lock.proofs.StepsKeepRule.{tries}
use Rattle.own_lock.proofs.PassCalls.{no_slot}
use Rattle.own_lock.proofs.lock.OwnLock.try_take.Goals as goal

pub compare_exchange-found-requires : goal.compare_exchange-found-requires
compare_exchange-found-requires g c =
    let has = c.pass.invariant in
    let bare = no_slot _ _ _ _ _ has c.pass.view_is c.requires.idle in
    (search rules, search rules, rw c.self.invariant.1 (tries _ _ _ _ _ _ _ _ has.one bare))

pub lift-requires-clause-full : goal.lift-requires-clause-full
lift-requires-clause-full g c = let won = c.compare_exchange-found.ensures.2.0 c.if-found-ne-FREE.false in (won.0, ap (λ m. m.1) won.1)

pub invariant_of-pass : goal.invariant_of-pass
invariant_of-pass c = search rules
