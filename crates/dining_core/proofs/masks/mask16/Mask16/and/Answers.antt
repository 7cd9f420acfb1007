use Rattle.dining_core.proofs.masks_lemmas.BitSets.{bit_both}
use Rattle.dining_core.proofs.masks.mask16.Mask16.and.Goals as goal

pub returns : goal.returns
returns c = λ i. bit_both c.args.self.bits c.args.other.bits i
