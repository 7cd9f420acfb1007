use Rattle.std.proofs.Common.{ap, ◌∙◌}
use Rattle.drinking_core.specs.declared.shared_bottle.SharedBottle.{SharedBottle}
use Rattle.drinking_core.specs.refinement.Bars.{BarValue, drinker_of, place_at}
use Rattle.drinking_core.proofs.bar.Bar.peer.Goals as goal

pub returns : goal.returns
returns c =
    ap (λ (p : SharedBottle). p.peer) (c.at.ensures ∙ ap (λ l. place_at l c.args.r) c.deref.ensures.value)
    ∙ ap (λ (b : BarValue). (drinker_of b).peer c.args.r) c.self.view_is
