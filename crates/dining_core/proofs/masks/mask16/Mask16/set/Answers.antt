use Rattle.std.proofs.Common.{arith}
use Rattle.std.specs.Int.{w16}
use Rattle.dining_core.specs.masks.Sets.{has_bit}
use Rattle.dining_core.proofs.masks_lemmas.BitSets.{bit_set, put_beyond}
use Rattle.dining_core.proofs.masks.mask16.Mask16.set.Goals as goal

pub returns-then-k-lt16 : goal.returns-then-k-lt16
returns-then-k-lt16 c = λ i low. bit_set w16 c.args.self.now.bits c.args.k c.if-k-lt16.true i

pub returns-else-k-lt16 : goal.returns-else-k-lt16
returns-else-k-lt16 c = λ i low. put_beyond 16 (has_bit c.args.self.now.bits) c.args.k _ (λ lt. omega (arith, lt, c.if-k-lt16.false)) i low
