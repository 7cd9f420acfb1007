use Rattle.std.proofs.Common.{sym, ◌∙◌, map, List, [], ◌∷◌, ◌++◌}
use Rattle.office_map.specs.PlanValue.{records_of, neighbours_of}
use Rattle.office_journal.specs.declared.rule.Rule.{Rule}
use Rattle.office_journal.specs.declared.rule.Rule.TheVariants.{Start, Hungry, AskFork, GiveFork, Eat, Leave, AskBottle, GiveBottle, Drink, Work, Finish}
use Rattle.site_core.specs.Limits.{usual_piece}
use Rattle.site_core.specs.Offices.{may}
use Rattle.site_core.specs.neighbours.refinement.PairsOfCode.{PairsValue}
use Rattle.site_core.specs.refinement.OfficeOfCode.{office_at}
use Rattle.site_core.proofs.FirstRule.{found_before, found_after}
use Rattle.site_core.proofs.order.next_rule.Goals as goal

abbrev part0 : PairsValue → List Rule
part0 q = map GiveBottle (records_of q.plan q.me)

abbrev part1 : PairsValue → List Rule
part1 q = map GiveFork (neighbours_of q.plan q.me)

abbrev part2 : PairsValue → List Rule
part2 q = (Finish ∷ Work usual_piece ∷ Drink ∷ Eat ∷ Leave ∷ Start ∷ Hungry ∷ [])

abbrev part3 : PairsValue → List Rule
part3 q = map AskBottle (records_of q.plan q.me)

abbrev part4 : PairsValue → List Rule
part4 q = map AskFork (neighbours_of q.plan q.me)

abbrev rest2 : PairsValue → List Rule
rest2 q = part3 q ++ part4 q

abbrev rest1 : PairsValue → List Rule
rest1 q = part2 q ++ rest2 q

abbrev rest0 : PairsValue → List Rule
rest0 q = part1 q ++ rest1 q

pub returns-in-Some : goal.returns-in-Some
returns-in-Some c = λ a m.
    let q = c.args.pairs.now in
    let p = may q.plan q.me (office_at q a) in
    sym (found_before p (part0 q) (rest0 q) c.in-Some.rule (sym (c.give_bottle.ensures a) ∙ c.in-Some.is))

pub returns-in-Some-give_fork : goal.returns-in-Some-give_fork
returns-in-Some-give_fork c = λ a m.
    let q = c.args.pairs.now in
    let p = may q.plan q.me (office_at q a) in
    sym (found_after p (part0 q) (rest0 q) _ (sym (c.give_bottle.ensures a) ∙ c.in_default.is) (found_before p (part1 q) (rest1 q) c.in-Some-give_fork.rule (sym (c.give_fork.ensures a) ∙ c.in-Some-give_fork.is)))

pub returns-in-Some-of_no_pair : goal.returns-in-Some-of_no_pair
returns-in-Some-of_no_pair c = λ a m.
    let q = c.args.pairs.now in
    let p = may q.plan q.me (office_at q a) in
    sym (found_after p (part0 q) (rest0 q) _ (sym (c.give_bottle.ensures a) ∙ c.in_default.is) (found_after p (part1 q) (rest1 q) _ (sym (c.give_fork.ensures a) ∙ c.in_default-give_fork.is) (found_before p (part2 q) (rest2 q) c.in-Some-of_no_pair.rule (sym (c.of_no_pair.ensures a m) ∙ c.in-Some-of_no_pair.is))))

pub returns-in-Some-ask_bottle : goal.returns-in-Some-ask_bottle
returns-in-Some-ask_bottle c = λ a m.
    let q = c.args.pairs.now in
    let p = may q.plan q.me (office_at q a) in
    sym (found_after p (part0 q) (rest0 q) _ (sym (c.give_bottle.ensures a) ∙ c.in_default.is) (found_after p (part1 q) (rest1 q) _ (sym (c.give_fork.ensures a) ∙ c.in_default-give_fork.is) (found_after p (part2 q) (rest2 q) _ (sym (c.of_no_pair.ensures a m) ∙ c.in_default-of_no_pair.is) (found_before p (part3 q) (part4 q) c.in-Some-ask_bottle.rule (sym (c.ask_bottle.ensures a) ∙ c.in-Some-ask_bottle.is)))))

pub returns : goal.returns
returns c = λ a m.
    let q = c.args.pairs.now in
    let p = may q.plan q.me (office_at q a) in
    sym (found_after p (part0 q) (rest0 q) _ (sym (c.give_bottle.ensures a) ∙ c.in_default.is) (found_after p (part1 q) (rest1 q) _ (sym (c.give_fork.ensures a) ∙ c.in_default-give_fork.is) (found_after p (part2 q) (rest2 q) _ (sym (c.of_no_pair.ensures a m) ∙ c.in_default-of_no_pair.is) (found_after p (part3 q) (part4 q) _ (sym (c.ask_bottle.ensures a) ∙ c.in_default-ask_bottle.is) (sym (c.ask_fork.ensures a))))))
