use Rattle.std.proofs.Common.{◌≡◌, ℕ, ap, ◌∙◌, ◌<◌, length, List, set, sym, true, false, rules}
use Rattle.dining_core.specs.declared.shared_fork.SharedFork.{SharedFork}
use Rattle.dining_core.specs.Diners.{AskFork, act}
use Rattle.dining_core.specs.refinement.Tables.{TableValue, diner_of, place_at}
use Rattle.dining_core.proofs.TableUpdates.{token_put, token_within}
use Rattle.dining_core.proofs.table.Table.ask_fork.Goals as goal

pub returns : goal.returns
returns c =
    let ps : List SharedFork = c.self.inside.places.items in
    let v : ℕ = c.args.v in
    let read : c.at-place.result ≡ place_at ps v = c.at-place.ensures ∙ ap (λ l. place_at l v) c.deref.ensures.value in
    let asked : c.at-place.result.token ≡ true = search rules in
    let lt : v < length ps = token_within ps v (ap (λ (p : SharedFork). p.token) (sym read) ∙ asked) in
    record {
      not_now = search rules;
      done = ap (λ k. diner_of (record { neighbours = c.self.inside.neighbours.items; phase = c.self.inside.phase; places = set ps k (record { fork = c.at-place.result.fork; token = false }) })) c.index.ensures
          ∙ token_put c.self.inside.neighbours.items c.self.inside.phase ps v c.at-place.result false lt read
          ∙ ap (λ (t : TableValue). act (diner_of t) (AskFork v)) c.self.view_is;
      unchanged = search rules;
    }
