use Rattle.std.proofs.Common.{sym, subst}
use Rattle.drinking_core.specs.refinement.Bars.{drinker_of}
use Rattle.drinking_core.specs.refinement.Masks.{AreMasks}
use Rattle.drinking_core.proofs.MaskUpdates.{drunk}
use Rattle.drinking_core.proofs.masked_bar.MaskedBar.drink.Goals as goal

pub invariant_of-self-2 : goal.invariant_of-self-2
invariant_of-self-2 c =
    let s = c.self.inside in
    subst (λ d. AreMasks d s.tokens) (sym c.in_ok-drink.ensures.done) (drunk (drinker_of s.bar) s.tokens c.self.invariant)
