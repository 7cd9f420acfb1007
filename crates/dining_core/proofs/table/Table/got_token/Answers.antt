use Rattle.std.proofs.Common.{◌≡◌, ℕ, ap, ◌∙◌, ◌<◌, length, List, set, arith, true}
use Rattle.std.specs.Prelude.{◌==◌}
use Rattle.std.specs.List.{list_any}
use Rattle.dining_core.specs.declared.shared_fork.SharedFork.{SharedFork}
use Rattle.dining_core.specs.Diners.{with_token}
use Rattle.dining_core.specs.refinement.Tables.{TableValue, diner_of, place_at}
use Rattle.dining_core.proofs.TableUpdates.{token_put, place_is, among_within}
use Rattle.dining_core.proofs.table.Table.got_token.Goals as goal

pub index_mut-requires : goal.index_mut-requires
index_mut-requires c =
    omega (arith, c.index.ensures, among_within (length c.self.inside.places.items) c.self.inside.neighbours.items c.args.v c.self.invariant (ap (λ (t : TableValue). list_any (λ u. u == c.args.v) t.neighbours) c.self.view_is ∙ c.requires.ours))

pub returns : goal.returns
returns c =
    let ps : List SharedFork = c.self.inside.places.items in
    let v : ℕ = c.args.v in
    let lt : v < length ps = among_within (length ps) c.self.inside.neighbours.items v c.self.invariant (ap (λ (t : TableValue). list_any (λ u. u == v) t.neighbours) c.self.view_is ∙ c.requires.ours) in
    let is : c.index_mut.result.now ≡ place_at ps v = place_is ps c.index.result v c.index_mut.result.now c.index.ensures lt c.index_mut.ensures.value in
    ap (λ k. diner_of (record { neighbours = c.self.inside.neighbours.items; phase = c.self.inside.phase; places = set ps k (record { fork = c.index_mut.result.now.fork; token = true }) })) c.index.ensures
    ∙ token_put c.self.inside.neighbours.items c.self.inside.phase ps v c.index_mut.result.now true lt is
    ∙ ap (λ (t : TableValue). with_token (diner_of t) v) c.self.view_is
