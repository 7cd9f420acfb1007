use Rattle.drinking_core.specs.refinement.Bars.{drinker_of}
use Rattle.drinking_core.proofs.MaskUpdates.{asked}
use Rattle.drinking_core.proofs.masked_bar.MaskedBar.ask_bottle.Goals as goal

pub invariant_of-self-2 : goal.invariant_of-self-2
invariant_of-self-2 c =
    let s = c.self.inside in
    asked (drinker_of s.bar) (drinker_of c.ask_bottle.new.self) s.tokens c.clear.new.self c.args.r c.spot.result c.self.invariant c.in_ok-ask_bottle.ensures.done c.spot.ensures c.clear.ensures.cleared
