use Rattle.std.proofs.Common.{rules}
use Rattle.std.specs.Int.{w128}
use Rattle.dining_core.proofs.masks_lemmas.BitSets.{bit_without}
use Rattle.dining_core.proofs.masks.mask128.Mask128.and_not.Goals as goal

pub returns : goal.returns
returns c = λ i low. bit_without w128 c.args.self.bits c.args.other.bits (search rules) i low
