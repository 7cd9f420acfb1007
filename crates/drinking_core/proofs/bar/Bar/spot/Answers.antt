use Rattle.std.proofs.Common.{◌≡◌, ap, ◌∙◌, subst}
use Rattle.std.specs.Prelude.{◌==◌}
use Rattle.drinking_core.specs.refinement.Bars.{BarValue}
use Rattle.drinking_core.specs.refinement.Masks.{spot_in, IsSpot}
use Rattle.drinking_core.proofs.MaskUpdates.{same_place}
use Rattle.drinking_core.proofs.bar.Bar.spot.Goals as goal

pub returns : goal.returns
returns c =
    let s = c.self.inside in
    let at : c.spot.result ≡ spot_in s.spots.items c.args.r = c.spot.ensures ∙ ap (λ l. spot_in l c.args.r) c.deref.ensures.value in
    subst (λ (b : BarValue). IsSpot b.records c.args.r c.spot.result) c.self.view_is (λ k lt. ap (λ j. k == j) at ∙ same_place s.records.items s.spots.items c.self.invariant.spotted k c.args.r lt)
