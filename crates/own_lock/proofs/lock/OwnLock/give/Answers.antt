use Rattle.std.proofs.Common.{rules}
use Rattle.own_lock.proofs.PassCalls.{may_give, given_mine}
use Rattle.own_lock.proofs.lock.OwnLock.give.Goals as goal

pub swap-found-requires : goal.swap-found-requires
swap-found-requires g c = (
  search rules,
  search rules,
  rw c.self.invariant.1 (may_give _ _ _ _ _ _ _ _ _ _ _ _ _ _ _ c.pass.invariant c.pass.view_is c.requires.holds c.requires.of.1
      c.exchange.ensures.3 c.into_boxed-boxed.ensures c.requires.fits c.requires.key c.requires.adds),
)

pub returns-clause-mine : goal.returns-clause-mine
returns-clause-mine g c added is =
    given_mine _ _ _ _ _ _ _ _ _ _ c.pass.invariant c.pass.view_is c.requires.holds
    c.exchange.ensures.3 c.into_boxed-boxed.ensures c.requires.adds c.swap-found.ensures.2 added is

pub invariant_of-pass : goal.invariant_of-pass
invariant_of-pass c = search rules

pub returns-clause-given : goal.returns-clause-given
returns-clause-given c = search rules
