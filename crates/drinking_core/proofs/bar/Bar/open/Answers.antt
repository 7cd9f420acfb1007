use Rattle.std.proofs.Common.{◌≡◌, ◌<◌, ℕ, List, sym, ◌∙◌, subst, is_some}
use Rattle.std.specs.Prelude.{All}
use Rattle.drinking_core.specs.declared.shared_bottle.SharedBottle.{SharedBottle}
use Rattle.drinking_core.specs.refinement.Bars.{bottle_in}
use Rattle.drinking_core.specs.refinement.Masks.{Tells}
use Rattle.drinking_core.proofs.OpeningRefines.{bar_starts, kept_opening}
use Rattle.drinking_core.proofs.bar.Bar.open.Goals as goal

pub open-requires : goal.open-requires
open-requires c = record {
  within = subst (λ n. All (λ r. r < n) c.records_of-ours.result.now) (sym c.records.ensures.count) c.records_of-ours.ensures.records;
  few = c.records_of-ours.ensures.few;
  increase = c.records_of-ours.ensures.increase;
}

pub invariant_of-result : goal.invariant_of-result
invariant_of-result c =
    let rs : List ℕ = c.in_ok-records.records.items in
    let copied : rs ≡ c.records_of-ours.result.now = c.in_ok-records.ensures.items_if_clones_equal (λ x y e. e) in
    kept_opening c.args.plan.now c.args.id rs c.records_of-ours.result.now c.in_ok-spots.spots.items c.empty.result c.held_in-held.result c.in_ok-places.places.items copied
    c.in_ok-spots.ensures c.records_of-ours.ensures.records c.empty.ensures
    (subst (λ (l : List SharedBottle). Tells c.records_of-ours.result.now c.held_in-held.result (λ r. is_some (bottle_in l r))) c.deref.ensures.value c.held_in-held.ensures)
    c.in_ok-places.ensures

pub returns : goal.returns
returns c =
    let rs : List ℕ = c.in_ok-records.records.items in
    let copied : rs ≡ c.records_of-ours.result.now = c.in_ok-records.ensures.items_if_clones_equal (λ x y e. e) in
    bar_starts c.args.plan.now c.args.id rs c.in_ok-spots.spots.items c.empty.result c.in_ok-places.places.items (copied ∙ c.records_of-ours.ensures.all) c.empty.ensures c.in_ok-places.ensures
