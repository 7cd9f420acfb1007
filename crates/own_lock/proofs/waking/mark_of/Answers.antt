use Rattle.own_lock.proofs.WaitingTags.{waits_in-mark}
use Rattle.own_lock.proofs.waking.mark_of.Goals as goal

pub returns : goal.returns
returns c t = waits_in-mark c.args.tag c.requires t
