use Rattle.std.proofs.Common.{arith}
use Rattle.std.specs.Int.{w128}
use Rattle.dining_core.specs.masks.Sets.{has_bit}
use Rattle.dining_core.proofs.masks_lemmas.BitSets.{bit_set, put_beyond}
use Rattle.dining_core.proofs.masks.mask128.Mask128.set.Goals as goal

pub returns-then-k-lt128 : goal.returns-then-k-lt128
returns-then-k-lt128 c = λ i low. bit_set w128 c.args.self.now.bits c.args.k c.if-k-lt128.true i

pub returns-else-k-lt128 : goal.returns-else-k-lt128
returns-else-k-lt128 c = λ i low. put_beyond 128 (has_bit c.args.self.now.bits) c.args.k _ (λ lt. omega (arith, lt, c.if-k-lt128.false)) i low
