use Rattle.std.proofs.Common.{◌≡◌, ℕ, ap, ◌∙◌, ◌<◌, length, List, set, sym, not, ◌&&◌, true, false, rules}
use Rattle.dining_core.specs.declared.shared_fork.Fork.TheVariants.{Away}
use Rattle.dining_core.specs.declared.shared_fork.SharedFork.{SharedFork}
use Rattle.dining_core.specs.Diners.{Diner}
use Rattle.dining_core.specs.refinement.Tables.{TableValue, diner_of, place_at, holds, has_clean, has_token, is_held, is_clean}
use Rattle.dining_core.proofs.TableUpdates.{fork_gone, place_is, token_within, owed_token, owed_dirty}
use Rattle.dining_core.proofs.table.Table.give_fork.Goals as goal
use Rattle.bottle_values.specs.Maps.{put}

abbrev given : TableValue → ℕ → Diner
given t v = record { neighbours = t.neighbours; phase = t.phase; held = put (holds t.places) v false; clean = has_clean t.places; token = has_token t.places }

pub returns : goal.returns
returns c =
    let ps : List SharedFork = c.self.inside.places.items in
    let v : ℕ = c.args.v in
    let read : c.at.result ≡ place_at ps v = c.at.ensures ∙ ap (λ l. place_at l v) c.deref.ensures.value in
    let owed : ((place_at ps v).token && (is_held (place_at ps v).fork && not (is_clean (place_at ps v).fork))) ≡ true =
    ap (λ (p : SharedFork). p.token && (is_held p.fork && not (is_clean p.fork))) (sym read) ∙ sym c.is_owed.ensures ∙ c.if-not-is_owed.false in
    let lt : v < length ps = token_within ps v (owed_token (place_at ps v).token _ _ owed) in
    let is : c.index_mut.result.now ≡ place_at ps v = place_is ps c.index.result v c.index_mut.result.now c.index.ensures lt c.index_mut.ensures.value in
    record {
      not_now = search rules;
      done = ap (λ k. diner_of (record { neighbours = c.self.inside.neighbours.items; phase = c.self.inside.phase; places = set ps k (record { fork = Away; token = c.index_mut.result.now.token }) })) c.index.ensures
          ∙ fork_gone c.self.inside.neighbours.items c.self.inside.phase ps v c.index_mut.result.now lt is (ap (λ (p : SharedFork). is_clean p.fork) is ∙ owed_dirty (place_at ps v).token _ _ owed)
          ∙ ap (λ (t : TableValue). given t v) c.self.view_is;
      unchanged = search rules;
    }

pub returns-then-matches : goal.returns-then-matches
returns-then-matches c = record { not_now = search rules; done = search rules; unchanged = search rules }
