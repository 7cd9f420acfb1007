use Rattle.std.proofs.Common.{◌≡◌, true, false, None, is_some, ◌<◌, length, sym, ap, ◌∙◌, subst, set, rules}
use Rattle.dining_core.specs.refinement.Tables.{diner_of}
use Rattle.drinking_core.specs.declared.shared_bottle.SharedBottle.{SharedBottle}
use Rattle.drinking_core.specs.Drinkers.{GiveBottle, act}
use Rattle.drinking_core.specs.refinement.Bars.{BarValue, drinker_of, place_at, IsBarOf}
use Rattle.drinking_core.specs.refinement.Masks.{spot_in}
use Rattle.drinking_core.proofs.MaskUpdates.{IsPut}
use Rattle.drinking_core.proofs.BarUpdates.{bottle_put, kept_bottle, owed_parts, token_within}
use Rattle.drinking_core.proofs.bar.Bar.give_bottle.Goals as goal

read : (c : goal.After-self-1) → c.at-place.result ≡ place_at c.self.inside.places.items c.args.r
read c = c.at-place.ensures ∙ ap (λ l. place_at l c.args.r) c.deref.ensures.value

within : (c : goal.After-self-1) → c.args.r < length c.self.inside.places.items
within c =
    let owed : (c.at-place.result.token ≡ true) × (is_some c.at-place.result.bottle ≡ true) = owed_parts c.at-place.result.token _ (sym c.is_owed.ensures ∙ c.if-not-is_owed.false) in
    token_within c.self.inside.places.items c.args.r (ap (λ (p : SharedBottle). p.token) (sym (read c)) ∙ owed.0)

abbrev given : (c : goal.After-self-1) → SharedBottle
given c = record { bottle = None; token = c.at-place.result.token; peer = c.at-place.result.peer }

pub invariant_of-self : goal.invariant_of-self
invariant_of-self c =
    let s = c.self.inside in
    let at : c.spot.result ≡ spot_in s.spots.items c.args.r = c.spot.ensures ∙ ap (λ l. spot_in l c.args.r) c.deref-2.ensures.value in
    subst (λ i. IsBarOf s.records.items s.spots.items s.needed c.clear.new.self (set s.places.items i (given c))) (sym c.index.ensures)
    (kept_bottle s.records.items s.spots.items s.needed s.held c.clear.new.self s.places.items c.args.r c.at-place.result None c.self.invariant (within c)
    (subst (λ k. IsPut s.held c.clear.new.self k false) at c.clear.ensures.cleared))

pub returns : goal.returns
returns c =
    let s = c.self.inside in
    record {
      not_now = search rules;
      done = ap (λ i. drinker_of (record { records = s.records.items; spots = s.spots.items; phase = s.phase; needed = s.needed; places = set s.places.items i (given c) })) c.index.ensures
          ∙ bottle_put s.records.items s.spots.items s.phase s.needed s.places.items c.args.r c.at-place.result None (within c) (read c)
          ∙ ap (λ (b : BarValue). act (drinker_of b) (GiveBottle c.args.r (diner_of c.args.table.now).held)) c.self.view_is;
      unchanged = search rules;
    }
