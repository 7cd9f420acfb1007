use Rattle.std.proofs.Common.{sym, subst}
use Rattle.drinking_core.specs.refinement.Bars.{drinker_of}
use Rattle.drinking_core.specs.refinement.Masks.{AreMasks}
use Rattle.drinking_core.proofs.MaskUpdates.{finished}
use Rattle.drinking_core.proofs.masked_bar.MaskedBar.finish.Goals as goal

pub invariant_of-self-2 : goal.invariant_of-self-2
invariant_of-self-2 c =
    let s = c.self.inside in
    subst (λ d. AreMasks d s.tokens) (sym c.in_ok-finish.ensures.done) (finished (drinker_of s.bar) s.tokens _ c.self.invariant)
