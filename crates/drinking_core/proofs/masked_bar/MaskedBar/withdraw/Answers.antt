use Rattle.std.proofs.Common.{sym, subst}
use Rattle.drinking_core.specs.refinement.Bars.{drinker_of}
use Rattle.drinking_core.specs.refinement.Masks.{AreMasks}
use Rattle.drinking_core.proofs.MaskUpdates.{withdrawn}
use Rattle.drinking_core.proofs.masked_bar.MaskedBar.withdraw.Goals as goal

pub invariant_of-self-2 : goal.invariant_of-self-2
invariant_of-self-2 c =
    let s = c.self.inside in
    subst (λ d. AreMasks d s.tokens) (sym c.in_ok-withdraw.ensures.done) (withdrawn (drinker_of s.bar) s.tokens c.self.invariant)
