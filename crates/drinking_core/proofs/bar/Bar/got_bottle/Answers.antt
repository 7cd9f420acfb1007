use Rattle.std.proofs.Common.{◌≡◌, true, Some, ◌<◌, length, sym, ap, ◌∙◌, subst, set}
use Rattle.drinking_core.specs.declared.shared_bottle.SharedBottle.{SharedBottle}
use Rattle.drinking_core.specs.Drinkers.{with_bottle}
use Rattle.drinking_core.specs.refinement.Bars.{BarValue, drinker_of, place_at, IsBarOf}
use Rattle.drinking_core.specs.refinement.Masks.{spot_in}
use Rattle.drinking_core.proofs.MaskUpdates.{IsPut}
use Rattle.drinking_core.proofs.BarUpdates.{bottle_put, kept_bottle}
use Rattle.drinking_core.proofs.bar.Bar.got_bottle.Goals as goal
use Rattle.bottle_values.specs.Lists.{is_among}

read : (c : goal.After-self-1) → c.at-place.result ≡ place_at c.self.inside.places.items c.args.r
read c = c.at-place.ensures ∙ ap (λ l. place_at l c.args.r) c.deref.ensures.value

within : (c : goal.After-self-1) → c.args.r < length c.self.inside.places.items
within c = c.self.invariant.within c.args.r (ap (λ (b : BarValue). is_among b.records c.args.r) c.self.view_is ∙ c.requires.ours)

abbrev come : (c : goal.After-self-1) → SharedBottle
come c = record { bottle = Some c.args.value; token = c.at-place.result.token; peer = c.at-place.result.peer }

pub invariant_of-self : goal.invariant_of-self
invariant_of-self c =
    let s = c.self.inside in
    let at : c.spot.result ≡ spot_in s.spots.items c.args.r = c.spot.ensures ∙ ap (λ l. spot_in l c.args.r) c.deref-2.ensures.value in
    subst (λ i. IsBarOf s.records.items s.spots.items s.needed c.set.new.self (set s.places.items i (come c))) (sym c.index.ensures)
    (kept_bottle s.records.items s.spots.items s.needed s.held c.set.new.self s.places.items c.args.r c.at-place.result (Some c.args.value) c.self.invariant (within c)
    (subst (λ k. IsPut s.held c.set.new.self k true) at c.set.ensures))

pub returns : goal.returns
returns c =
    let s = c.self.inside in
    ap (λ i. drinker_of (record { records = s.records.items; spots = s.spots.items; phase = s.phase; needed = s.needed; places = set s.places.items i (come c) })) c.index.ensures
    ∙ bottle_put s.records.items s.spots.items s.phase s.needed s.places.items c.args.r c.at-place.result (Some c.args.value) (within c) (read c)
    ∙ ap (λ (b : BarValue). with_bottle (drinker_of b) c.args.r c.args.value) c.self.view_is
