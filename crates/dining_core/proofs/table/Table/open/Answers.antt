use Rattle.std.proofs.Common.{◌≡◌, ℕ, ap, ◌∙◌, length, List, sym, subst}
use Rattle.std.specs.Prelude.{All, ◌<◌}
use Rattle.std.proofs.lemmas.List.FromFn.{length-map-range_with_len}
use Rattle.dining_core.specs.refinement.Tables.{start_place}
use Rattle.dining_core.proofs.OpeningRefines.{table_starts}
use Rattle.dining_core.proofs.table.Table.open.Goals as goal

pub invariant_of-result : goal.invariant_of-result
invariant_of-result c =
    let ns : List ℕ = c.in_ok-neighbours.neighbours.items in
    let copied : ns ≡ c.neighbours.result.now = c.in_ok-neighbours.ensures.items_if_clones_equal (λ x y e. e) in
    let sized : length c.in_ok-places.places.items ≡ length c.args.plan.now.offices = ap length c.in_ok-places.ensures ∙ length-map-range_with_len (start_place c.args.plan.now c.args.id) 0 (length c.args.plan.now.offices) in
    subst (λ (n : ℕ). All (λ v. v < n) ns) (sym sized) (subst (λ (l : List ℕ). All (λ v. v < length c.args.plan.now.offices) l) (sym copied) c.neighbours.ensures.offices)

pub returns : goal.returns
returns c =
    let ns : List ℕ = c.in_ok-neighbours.neighbours.items in
    let copied : ns ≡ c.neighbours.result.now = c.in_ok-neighbours.ensures.items_if_clones_equal (λ x y e. e) in
    table_starts c.args.plan.now c.args.id ns c.in_ok-places.places.items c.neighbours.ensures.consistent (copied ∙ c.neighbours.ensures.all) c.in_ok-places.ensures
