use Rattle.dining_core.proofs.masks_lemmas.BitSets.{bit_either}
use Rattle.dining_core.proofs.masks.mask128.Mask128.or.Goals as goal

pub returns : goal.returns
returns c = λ i. bit_either c.args.self.bits c.args.other.bits i
