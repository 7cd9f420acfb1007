use Rattle.std.proofs.Common.{sym, subst}
use Rattle.drinking_core.specs.refinement.Bars.{drinker_of}
use Rattle.drinking_core.specs.refinement.Masks.{AreMasks}
use Rattle.drinking_core.proofs.MaskUpdates.{bottle_came}
use Rattle.drinking_core.proofs.masked_bar.MaskedBar.got_bottle.Goals as goal

pub invariant_of-self : goal.invariant_of-self
invariant_of-self c =
    let s = c.self.inside in
    subst (λ d. AreMasks d s.tokens) (sym c.got_bottle.ensures) (bottle_came (drinker_of s.bar) s.tokens c.args.r c.args.value c.self.invariant)
