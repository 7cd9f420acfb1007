use Rattle.std.proofs.Common.{rules}
use Rattle.std.specs.Int.{w16}
use Rattle.dining_core.proofs.masks_lemmas.BitSets.{bit_without}
use Rattle.dining_core.proofs.masks.mask16.Mask16.and_not.Goals as goal

pub returns : goal.returns
returns c = λ i low. bit_without w16 c.args.self.bits c.args.other.bits (search rules) i low
