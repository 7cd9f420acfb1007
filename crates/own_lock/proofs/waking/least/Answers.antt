use Rattle.std.proofs.Common.{rules, arith}
use Rattle.own_lock.proofs.WaitingTags.{IsLeast-trailing_zeros}
use Rattle.own_lock.proofs.waking.least.Goals as goal

pub returns : goal.returns
returns c = IsLeast-trailing_zeros c.args.waiting (omega (arith, c.if-waiting-eq0.false)) (search rules)
