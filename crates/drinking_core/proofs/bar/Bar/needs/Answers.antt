use Rattle.std.proofs.Common.{ap, ◌∙◌}
use Rattle.drinking_core.specs.refinement.Bars.{BarValue, drinker_of}
use Rattle.drinking_core.specs.refinement.Masks.{bit_in}
use Rattle.drinking_core.proofs.bar.Bar.needs.Goals as goal

pub returns : goal.returns
returns c =
    c.has.ensures
    ∙ ap (λ l. bit_in l c.self.inside.needed c.args.r) c.deref.ensures.value
    ∙ ap (λ (b : BarValue). (drinker_of b).needed c.args.r) c.self.view_is
