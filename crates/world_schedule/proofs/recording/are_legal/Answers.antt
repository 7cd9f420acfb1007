use Rattle.std.proofs.Common.{◌≡◌, ℕ, get_or, ap, subst, ◌∙◌, arith, ⊎_elim}
use Rattle.std.proofs.lemmas.Bool.{cases_lt}
use Rattle.site_core.specs.Journals.{Site, IsLegal}
use Rattle.world_schedule.proofs.Records.{site_there}
use Rattle.world_schedule.proofs.recording.are_legal.Goals as goal

pub loop-office-init : goal.loop-office-init
loop-office-init c a s lt is = absurd (omega (arith, lt))

pub loop-office-preserved : goal.loop-office-preserved
loop-office-preserved c a s lt is = ⊎_elim
    (λ less. c.loop-office.invariant a s less is)
    (λ ge.
    let sites = c.args.offices.now in
    let item : Site = c.office-item.result in
    let here : ◌≡◌ {A = ℕ} c.loop-office.office-index a = omega (arith, ge, lt) in
    let same : item ≡ s = c.office-item.is ∙ ap (λ n. get_or sites n item) here ∙ site_there sites a s item (omega (arith, here, c.loop-office-test.true)) is in
    subst IsLegal same c.journal.ensures.legal)
    (cases_lt a c.loop-office.office-index)

pub returns : goal.returns
returns c a s lt is = c.loop-office.invariant a s (omega (arith, lt, c.loop-office-test.false)) is
