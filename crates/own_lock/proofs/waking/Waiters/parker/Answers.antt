use Rattle.std.proofs.Common.{rules}
use Rattle.own_lock.proofs.waking.Waiters.parker.Goals as goal

pub returns : goal.returns
returns c = search rules
