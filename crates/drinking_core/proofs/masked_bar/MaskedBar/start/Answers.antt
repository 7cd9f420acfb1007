use Rattle.std.proofs.Common.{sym, subst}
use Rattle.drinking_core.specs.refinement.Bars.{drinker_of}
use Rattle.drinking_core.specs.refinement.Masks.{AreMasks}
use Rattle.drinking_core.proofs.MaskUpdates.{started}
use Rattle.drinking_core.proofs.masked_bar.MaskedBar.start.Goals as goal

pub invariant_of-self-2 : goal.invariant_of-self-2
invariant_of-self-2 c =
    let s = c.self.inside in
    subst (λ d. AreMasks d s.tokens) (sym c.in_ok-start.ensures.done) (started (drinker_of s.bar) s.tokens _ c.self.invariant)
