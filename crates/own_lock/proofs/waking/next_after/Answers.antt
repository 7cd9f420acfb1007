use Rattle.std.proofs.Common.{rules}
use Rattle.own_lock.proofs.WaitingTags.{IsNextAfter-least}
use Rattle.own_lock.proofs.waking.next_after.Goals as goal

pub returns : goal.returns
returns c = rw c.or.ensures (IsNextAfter-least c.args.waiting c.args.tag _ _ (search rules) c.requires c.least.ensures c.least-2.ensures)
