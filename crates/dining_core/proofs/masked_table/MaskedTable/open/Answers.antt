use Rattle.std.proofs.Common.{◌≡◌, ◌<◌, ℕ, List, sym, ap, ◌∙◌, subst, arith}
use Rattle.std.specs.Prelude.{All}
use Rattle.bottle_values.specs.Lists.{is_among}
use Rattle.dining_core.specs.Diners.{Diner}
use Rattle.dining_core.specs.refinement.Tables.{diner_of}
use Rattle.dining_core.proofs.masked_table.MaskedTable.open.Goals as goal

pub invariant_of-result : goal.invariant_of-result
invariant_of-result c =
    let same : c.neighbours.result.now ≡ (diner_of c.in_ok-table.table).neighbours = c.neighbours.ensures.all ∙ sym (ap (λ (d : Diner). d.neighbours) c.in_ok-table.ensures) in
    record {
      few = subst (λ (l : List ℕ). All (λ v. v < 16) l) same (λ k d lt. omega (arith, c.neighbours.ensures.offices k d lt, c.neighbours.ensures.consistent.offices_fit));
      neighbours = λ v low. c.near_in-near.ensures v low ∙ ap (λ (l : List ℕ). is_among l v) same;
      forks = c.here_in.ensures.held;
      unused = λ v low. c.empty.ensures v ∙ sym (ap (λ (d : Diner). d.clean v) c.in_ok-table.ensures);
      requests = c.here_in.ensures.tokens;
    }
