use Rattle.std.proofs.Common.{◌≡◌, ℕ, take, Some, sym, ap, subst, ◌∙◌}
use Rattle.std.specs.Prelude.{slice_get}
use Rattle.std.proofs.lemmas.Option.{slice_get-get_or}
use Rattle.std.proofs.lemmas.Result.{err_from_is_err_and}
use Rattle.office_map.specs.PlanValue.{PlanValue}
use Rattle.site_core.specs.Journals.{Site, IsLegal}
use Rattle.site_core.specs.Reopening.{site_with}
use Rattle.site_core.specs.refinement.Giving.{Gives}
use Rattle.site_core.proofs.LegalBeginnings.{cut_at}
use Rattle.site_core.proofs.reopening.reopened.Goals as goal

pub returns-then-not-branch-clause-fault : goal.returns-then-not-branch-clause-fault
returns-then-not-branch-clause-fault c =
    let k = c.loop-entry.invariant in
    let x = c.entry-item.result in
    let i : ℕ = c.loop-entry.entry-index in
    let plan : PlanValue = c.args.plan.now in
    let me : ℕ = c.args.me in
    let es = c.args.entries.now in
    let stands : slice_get es i ≡ Some x = slice_get-get_or es i x c.loop-entry-test.true ∙ ap Some (sym c.entry-item.is) in
    let legal : IsLegal (site_with plan me (take i es)) = subst IsLegal k.at c.gives_next.ensures.legal in
    cut_at plan me es i c.loop-entry.given x k.counted stands legal (λ g. c.in_ok-gives_next.ensures.other c.if-not-branch.true (subst (λ (o : Site). Gives o x) (sym k.at) g))

pub returns-in_err-gives_next-clause-fault : goal.returns-in_err-gives_next-clause-fault
returns-in_err-gives_next-clause-fault c =
    let e = err_from_is_err_and c.from_residual-in_err-gives_next.result c.from_residual-in_err-gives_next.ensures.1 in
    rw (e.1, e.2) record {}
