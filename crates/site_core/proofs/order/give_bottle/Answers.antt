use Rattle.std.proofs.Common.{length, refl, sym, ap, ◌∙◌}
use Rattle.std.specs.Prelude.{option_map}
use Rattle.std.specs.List.{range_with_len}
use Rattle.office_map.specs.PlanValue.{is_end}
use Rattle.drinking_core.specs.Drinkers as bottles
use Rattle.office_journal.specs.declared.rule.Rule.TheVariants.{GiveBottle}
use Rattle.site_core.specs.Offices.{may}
use Rattle.site_core.specs.refinement.OfficeOfCode.{office_at}
use Rattle.site_core.proofs.FirstRule.{first_kept}
use Rattle.site_core.proofs.order.give_bottle.Goals as goal

pub returns-in-Some : goal.returns-in-Some
returns-in-Some c = λ a.
    let p = c.args.pairs.now in
    let o = office_at p a in
    sym (first_kept (may p.plan p.me o) GiveBottle (λ r. is_end p.plan r p.me) (λ r. bottles.may o.pairs.drinker (bottles.GiveBottle r o.pairs.diner.held)) (range_with_len 0 (length p.plan.records)) _ (λ r. refl) c.first_given.ensures
    ∙ ap (option_map GiveBottle) c.in-Some.is)

pub returns-in-None : goal.returns-in-None
returns-in-None c = λ a.
    let p = c.args.pairs.now in
    let o = office_at p a in
    sym (first_kept (may p.plan p.me o) GiveBottle (λ r. is_end p.plan r p.me) (λ r. bottles.may o.pairs.drinker (bottles.GiveBottle r o.pairs.diner.held)) (range_with_len 0 (length p.plan.records)) _ (λ r. refl) c.first_given.ensures
    ∙ ap (option_map GiveBottle) c.in-None.is)
