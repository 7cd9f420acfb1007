use Rattle.std.proofs.Common.{ℕ, List, length, None, Some, sym, ap, subst, ◌∙◌}
use Rattle.std.specs.Prelude.{◌&&◌, find}
use Rattle.dining_core.specs.masks.Sets.{IsLeast}
use Rattle.bottle_values.specs.Lists.{is_among}
use Rattle.office_map.specs.PlanValue.{are_neighbours, neighbours_of}
use Rattle.dining_core.specs.Diners as forks
use Rattle.dining_core.specs.refinement.Tables.{diner_of}
use Rattle.site_core.specs.neighbours.refinement.PairsOfCode.{PairsValue, pairs_of}
use Rattle.site_core.proofs.neighbours_lemmas.LeastNeighbour.{least_found}
use Rattle.site_core.proofs.neighbours.pairs.Pairs.first_fork_asked.Goals as goal

pub returns-in-Some : goal.returns-in-Some
returns-in-Some c =
    let s = c.self.inside in
    let d = diner_of s.table in
    ap Some c.office.ensures ∙ sym (ap (λ (p : PairsValue). find (λ v. forks.may (pairs_of p).diner (forks.AskFork v)) (neighbours_of p.plan p.me)) (sym c.self.view_is)
    ∙ least_found (are_neighbours s.plan s.me) (λ v. forks.may d (forks.AskFork v)) (length s.plan.offices) (Some c.in-Some.v) c.self.invariant.consistent.offices_fit
    (subst (λ (l : List ℕ). IsLeast 16 (λ v. is_among l v && forks.may d (forks.AskFork v)) (Some c.in-Some.v)) c.self.invariant.neighbours (subst (λ o. IsLeast 16 (λ v. is_among d.neighbours v && forks.may d (forks.AskFork v)) o) c.in-Some.is c.first_asked.ensures)))

pub returns-in-None : goal.returns-in-None
returns-in-None c =
    let s = c.self.inside in
    let d = diner_of s.table in
    sym (ap (λ (p : PairsValue). find (λ v. forks.may (pairs_of p).diner (forks.AskFork v)) (neighbours_of p.plan p.me)) (sym c.self.view_is)
    ∙ least_found (are_neighbours s.plan s.me) (λ v. forks.may d (forks.AskFork v)) (length s.plan.offices) None c.self.invariant.consistent.offices_fit
    (subst (λ (l : List ℕ). IsLeast 16 (λ v. is_among l v && forks.may d (forks.AskFork v)) None) c.self.invariant.neighbours (subst (λ o. IsLeast 16 (λ v. is_among d.neighbours v && forks.may d (forks.AskFork v)) o) c.in-None.is c.first_asked.ensures)))
