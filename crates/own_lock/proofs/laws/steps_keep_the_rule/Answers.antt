use Rattle.own_lock.proofs.StepsKeepRule.{LockRule-table_after}
use Rattle.own_lock.proofs.laws.steps_keep_the_rule.Goals as goal

pub returns : goal.returns
returns g c k passes s step rule may = LockRule-table_after _ _ _ _ k passes s step rule may
