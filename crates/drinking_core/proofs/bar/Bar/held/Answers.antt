use Rattle.std.proofs.Common.{subst}
use Rattle.drinking_core.specs.Drinkers.{holds}
use Rattle.drinking_core.specs.refinement.Bars.{BarValue, drinker_of}
use Rattle.drinking_core.specs.refinement.Masks.{Tells}
use Rattle.drinking_core.proofs.bar.Bar.held.Goals as goal

pub returns : goal.returns
returns c = subst (λ (b : BarValue). Tells b.records c.self.inside.held (holds (drinker_of b))) c.self.view_is c.self.invariant.here
