use Rattle.std.proofs.Common.{List, Some, sym, ap, ◌∙◌, subst, rules}
use Rattle.std.specs.Option.{option_copied}
use Rattle.drinking_core.specs.declared.phase.Phase.TheVariants.{Tranquil}
use Rattle.drinking_core.specs.declared.shared_bottle.SharedBottle.{SharedBottle}
use Rattle.drinking_core.specs.Drinkers.{finished}
use Rattle.drinking_core.specs.refinement.Bars.{BarValue, drinker_of, IsBarOf}
use Rattle.drinking_core.proofs.SessionUpdates.{session_ends, kept_end}
use Rattle.drinking_core.proofs.bar.Bar.finish.Goals as goal

pub invariant_of-self : goal.invariant_of-self
invariant_of-self c =
    let s = c.self.inside in
    subst (λ (l : List SharedBottle). IsBarOf s.records.items s.spots.items c.empty-self-inside.result s.held l) (sym c.write_all.ensures)
    (kept_end s.records.items s.spots.items s.needed c.empty-self-inside.result s.held s.places.items c.in-Some.writes.now c.self.invariant c.empty-self-inside.ensures)

pub returns : goal.returns
returns c =
    let s = c.self.inside in
    record {
      not_now = search rules;
      done = ap (λ (l : List SharedBottle). drinker_of (record { records = s.records.items; spots = s.spots.items; phase = Tranquil; needed = c.empty-self-inside.result; places = l })) c.write_all.ensures
          ∙ session_ends s.records.items s.spots.items c.empty-self-inside.result c.in-Some.writes.now s.places.items c.empty-self-inside.ensures
          ∙ ap (λ (b : BarValue). finished (drinker_of b) (Some c.in-Some.writes.now)) c.self.view_is
          ∙ ap (λ x. finished (drinker_of c.args.self.now) (option_copied x)) (sym c.in-Some.is);
      unchanged = search rules;
    }
