use Rattle.std.proofs.Common.{rules, Some, refl}
use Rattle.own_lock.proofs.lock.OwnLock.lift.Goals as goal

pub exchange-requires : goal.exchange-requires
exchange-requires g c = let full = c.requires.full in (search rules, (Some full.0, rw full.1 refl))
