use Rattle.std.proofs.Common.{refl}
use Rattle.own_lock.proofs.StepsKeepRule.{opens, LockRule-table_after_all}
use Rattle.own_lock.proofs.laws.the_rule_holds_throughout.Goals as goal

pub returns : goal.returns
returns g c x passes steps fit may = LockRule-table_after_all _ _ _ _ _ passes _ steps (opens _ _ _ _ _ passes x fit refl) may
