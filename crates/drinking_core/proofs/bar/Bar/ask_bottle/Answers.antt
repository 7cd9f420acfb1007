use Rattle.std.proofs.Common.{◌≡◌, false, ◌<◌, length, sym, ap, ◌∙◌, subst, set, rules}
use Rattle.drinking_core.specs.declared.shared_bottle.SharedBottle.{SharedBottle}
use Rattle.drinking_core.specs.Drinkers.{AskBottle, act}
use Rattle.drinking_core.specs.refinement.Bars.{BarValue, drinker_of, place_at, IsBarOf}
use Rattle.drinking_core.proofs.BarUpdates.{token_put, kept_token, token_within, asked_token}
use Rattle.drinking_core.proofs.bar.Bar.ask_bottle.Goals as goal

read : (c : goal.After-self-1) → c.at-place.result ≡ place_at c.self.inside.places.items c.args.r
read c = c.at-place.ensures ∙ ap (λ l. place_at l c.args.r) c.deref.ensures.value

within : (c : goal.After-self-1) → c.args.r < length c.self.inside.places.items
within c = token_within c.self.inside.places.items c.args.r (ap (λ (p : SharedBottle). p.token) (sym (read c)) ∙ asked_token _ c.at-place.result.token (sym c.is_askable.ensures ∙ c.if-not-is_askable.false))

abbrev asked : (c : goal.After-self-1) → SharedBottle
asked c = record { bottle = c.at-place.result.bottle; token = false; peer = c.at-place.result.peer }

pub invariant_of-self : goal.invariant_of-self
invariant_of-self c =
    let s = c.self.inside in
    subst (λ i. IsBarOf s.records.items s.spots.items s.needed s.held (set s.places.items i (asked c))) (sym c.index.ensures)
    (kept_token s.records.items s.spots.items s.needed s.held s.places.items c.args.r c.at-place.result false c.self.invariant (within c) (read c))

pub returns : goal.returns
returns c =
    let s = c.self.inside in
    record {
      not_now = search rules;
      done = ap (λ i. drinker_of (record { records = s.records.items; spots = s.spots.items; phase = s.phase; needed = s.needed; places = set s.places.items i (asked c) })) c.index.ensures
          ∙ token_put s.records.items s.spots.items s.phase s.needed s.places.items c.args.r c.at-place.result false (within c) (read c)
          ∙ ap (λ (b : BarValue). act (drinker_of b) (AskBottle c.args.r)) c.self.view_is;
      unchanged = search rules;
    }
