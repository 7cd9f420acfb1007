use Rattle.std.proofs.Common.{sym, subst}
use Rattle.dining_core.specs.refinement.Tables.{diner_of}
use Rattle.drinking_core.specs.refinement.Bars.{drinker_of}
use Rattle.drinking_core.specs.refinement.Masks.{AreMasks}
use Rattle.drinking_core.proofs.MaskUpdates.{given}
use Rattle.drinking_core.proofs.masked_bar.MaskedBar.give_bottle.Goals as goal

pub invariant_of-self-2 : goal.invariant_of-self-2
invariant_of-self-2 c =
    let s = c.self.inside in
    subst (λ d. AreMasks d s.tokens) (sym c.in_ok-give_bottle.ensures.done) (given (drinker_of s.bar) s.tokens c.args.r (diner_of c.args.table.now).held c.self.invariant)
