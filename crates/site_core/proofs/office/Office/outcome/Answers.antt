use Rattle.std.proofs.Common.{◌≡◌, None, subst, ◌∙◌, rules}
use Rattle.std.specs.Prelude.{slice_get}
use Rattle.std.specs.Result.{MatchResult}
use Rattle.std.proofs.lemmas.List.Sorted.{answers_always}
use Rattle.site_core.specs.Readers.{outcome_with}
use Rattle.site_core.specs.Journals.{office_of}
use Rattle.site_core.proofs.SessionsInOrder.{searched, looked_up}
use Rattle.site_core.proofs.office.Office.outcome.Goals as goal

pub returns-in-Ok : goal.returns-in-Ok
returns-in-Ok c =
    let s = c.args.self.now in
    let os = c.outcomes-outcomes.result.now in
    let a = (office_of s).agenda in
    let search_by = c.binary_search_by_key.ensures in
    let by_key = search_by.position (λ o. o.ticket) (answers_always _ _ _ (λ f x r g called. search rules)) in
    let found = searched os a c.args.ticket c.binary_search_by_key.result c.outcomes-outcomes.ensures (c.sessions_go_in_order.ensures s) search_by.bound by_key in
    let there = c.get.ensures.lookup in
    looked_up os c.in-Ok.i c.get.result there.0 there.1
    ∙ subst (λ r. MatchResult r (λ i. slice_get os i ≡ outcome_with a.outcomes c.args.ticket) (λ i. None ≡ outcome_with a.outcomes c.args.ticket)) c.in-Ok.is found

pub returns-in-Err : goal.returns-in-Err
returns-in-Err c =
    let s = c.args.self.now in
    let os = c.outcomes-outcomes.result.now in
    let a = (office_of s).agenda in
    let search_by = c.binary_search_by_key.ensures in
    let by_key = search_by.position (λ o. o.ticket) (answers_always _ _ _ (λ f x r g called. search rules)) in
    let found = searched os a c.args.ticket c.binary_search_by_key.result c.outcomes-outcomes.ensures (c.sessions_go_in_order.ensures s) search_by.bound by_key in
    subst (λ r. MatchResult r (λ i. slice_get os i ≡ outcome_with a.outcomes c.args.ticket) (λ i. None ≡ outcome_with a.outcomes c.args.ticket)) c.in-Err.is found
