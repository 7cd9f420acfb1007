use Rattle.std.proofs.Common.{[], ap, ◌∙◌, rules}
use Rattle.drinking_core.specs.Drinkers.{Withdraw, act}
use Rattle.drinking_core.specs.refinement.Bars.{BarValue, drinker_of}
use Rattle.drinking_core.proofs.SessionUpdates.{session_is_withdrawn, kept_end}
use Rattle.drinking_core.proofs.bar.Bar.withdraw.Goals as goal

pub invariant_of-self : goal.invariant_of-self
invariant_of-self c =
    let s = c.self.inside in
    kept_end s.records.items s.spots.items s.needed c.empty-self-inside.result s.held s.places.items [] c.self.invariant c.empty-self-inside.ensures

pub returns : goal.returns
returns c =
    let s = c.self.inside in
    record {
      not_now = search rules;
      done = session_is_withdrawn s.records.items s.spots.items c.empty-self-inside.result s.places.items c.empty-self-inside.ensures
          ∙ ap (λ (b : BarValue). act (drinker_of b) Withdraw) c.self.view_is;
      unchanged = search rules;
    }
