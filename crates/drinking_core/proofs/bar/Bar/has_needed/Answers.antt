use Rattle.std.proofs.Common.{ap, ◌∙◌}
use Rattle.std.specs.List.{list_all}
use Rattle.drinking_core.specs.Drinkers.{is_served}
use Rattle.drinking_core.specs.refinement.Bars.{BarValue, drinker_of}
use Rattle.drinking_core.proofs.SessionUpdates.{has_needed_is}
use Rattle.drinking_core.proofs.bar.Bar.has_needed.Goals as goal

pub returns : goal.returns
returns c =
    let s = c.self.inside in
    has_needed_is s.records.items s.spots.items s.needed s.held c.and_not.result s.places.items c.first.result c.is_none.result c.self.invariant c.and_not.ensures c.first.ensures c.is_none.ensures
    ∙ ap (λ (b : BarValue). list_all (is_served (drinker_of b)) b.records) c.self.view_is
