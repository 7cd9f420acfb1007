use Rattle.drinking_core.specs.refinement.Bars.{drinker_of}
use Rattle.drinking_core.proofs.MaskUpdates.{token_came}
use Rattle.drinking_core.proofs.masked_bar.MaskedBar.got_token.Goals as goal

pub invariant_of-self : goal.invariant_of-self
invariant_of-self c =
    let s = c.self.inside in
    token_came (drinker_of s.bar) (drinker_of c.got_token.new.self) s.tokens c.set.new.self c.args.r c.spot.result c.self.invariant c.got_token.ensures c.spot.ensures c.set.ensures
