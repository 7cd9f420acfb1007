use Rattle.std.proofs.Common.{length, refl, sym, ap, ◌∙◌}
use Rattle.std.specs.Prelude.{option_map}
use Rattle.std.specs.List.{range_with_len}
use Rattle.office_map.specs.PlanValue.{are_neighbours}
use Rattle.dining_core.specs.Diners as forks
use Rattle.office_journal.specs.declared.rule.Rule.TheVariants.{GiveFork}
use Rattle.site_core.specs.Offices.{may}
use Rattle.site_core.specs.refinement.OfficeOfCode.{office_at}
use Rattle.site_core.proofs.FirstRule.{first_kept}
use Rattle.site_core.proofs.order.give_fork.Goals as goal

pub returns-in-Some : goal.returns-in-Some
returns-in-Some c = λ a.
    let p = c.args.pairs.now in
    let o = office_at p a in
    sym (first_kept (may p.plan p.me o) GiveFork (are_neighbours p.plan p.me) (λ v. forks.may o.pairs.diner (forks.GiveFork v)) (range_with_len 0 (length p.plan.offices)) _ (λ v. refl) c.first_fork_given.ensures
    ∙ ap (option_map GiveFork) c.in-Some.is)

pub returns-in-None : goal.returns-in-None
returns-in-None c = λ a.
    let p = c.args.pairs.now in
    let o = office_at p a in
    sym (first_kept (may p.plan p.me o) GiveFork (are_neighbours p.plan p.me) (λ v. forks.may o.pairs.diner (forks.GiveFork v)) (range_with_len 0 (length p.plan.offices)) _ (λ v. refl) c.first_fork_given.ensures
    ∙ ap (option_map GiveFork) c.in-None.is)
