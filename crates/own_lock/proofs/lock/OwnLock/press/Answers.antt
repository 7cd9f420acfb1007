use Rattle.std.proofs.Common.{rules, ap}
use Rattle.own_lock.proofs.StepsKeepRule.{presses}
use Rattle.own_lock.proofs.PassCalls.{no_slot}
use Rattle.own_lock.proofs.lock.OwnLock.press.Goals as goal

pub swap-before-requires : goal.swap-before-requires
swap-before-requires g c =
    let has = c.pass.invariant in
    let bare = no_slot _ _ _ _ _ has c.pass.view_is c.requires.idle in
    (search rules, search rules, rw c.self.invariant.1 (presses _ _ _ _ _ _ _ _ has.one bare))

pub lift-requires-clause-full : goal.lift-requires-clause-full
lift-requires-clause-full g c = let won = c.swap-before.ensures.2.0 c.if-before-ne-FREE.false in (won.0, ap (λ m. m.1) won.1)

pub invariant_of-pass : goal.invariant_of-pass
invariant_of-pass c = search rules
