use Rattle.std.proofs.Common.{arith}
use Rattle.std.specs.Int.{w16}
use Rattle.dining_core.specs.masks.Sets.{has_bit}
use Rattle.dining_core.proofs.masks_lemmas.BitSets.{bit_cleared, bit_less, put_beyond}
use Rattle.dining_core.proofs.masks.mask16.Mask16.clear.Goals as goal

pub returns-then-k-lt16-clause-cleared : goal.returns-then-k-lt16-clause-cleared
returns-then-k-lt16-clause-cleared c = λ i low. bit_cleared w16 c.args.self.now.bits c.args.k c.if-k-lt16.true i low

pub returns-then-k-lt16-clause-smaller : goal.returns-then-k-lt16-clause-smaller
returns-then-k-lt16-clause-smaller c = λ lt was. bit_less w16 c.args.self.now.bits c.args.k lt was

pub returns-else-k-lt16-clause-cleared : goal.returns-else-k-lt16-clause-cleared
returns-else-k-lt16-clause-cleared c = λ i low. put_beyond 16 (has_bit c.args.self.now.bits) c.args.k _ (λ lt. omega (arith, lt, c.if-k-lt16.false)) i low

pub returns-else-k-lt16-clause-smaller : goal.returns-else-k-lt16-clause-smaller
returns-else-k-lt16-clause-smaller c = λ lt was. absurd (omega (arith, lt, c.if-k-lt16.false))
