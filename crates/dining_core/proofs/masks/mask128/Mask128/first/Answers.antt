use Rattle.std.proofs.Common.{rules, arith}
use Rattle.std.specs.Int.{w128}
use Rattle.dining_core.proofs.masks_lemmas.BitSets.{least_bit}
use Rattle.dining_core.proofs.masks.mask128.Mask128.first.Goals as goal

pub returns-else-self-eq0 : goal.returns-else-self-eq0
returns-else-self-eq0 c = least_bit w128 c.args.self.bits (omega (arith, c.if-self-eq0.false)) (search rules)
