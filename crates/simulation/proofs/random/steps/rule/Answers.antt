use Rattle.std.proofs.Common.{refl, sym, ◌∙◌, inl}
use Rattle.frame_world.specs.declared.event.WorldEvent.TheVariants as happening
use Rattle.simulation.specs.random.Runs.{Resting}
use Rattle.simulation.proofs.random_lemmas.Running.{on_ok, stepped, rule_there}
use Rattle.simulation.proofs.random.steps.rule.Goals as goal

pub returns-in_default : goal.returns-in_default
returns-in_default c = λ loss.
    let w = c.args.world.now in
    let none = sym (rule_there w c.office-office.result c.office.result.now c.next_rule.result c.office.ensures.site c.office.ensures.plan c.office.ensures.number c.next_rule.ensures.first) ∙ c.in_default.is in
    inl (Resting c.office-office.result c.office-office.ensures none, refl)

pub returns : goal.returns
returns c = on_ok c.unless_memory.result _ _ (λ kept loss.
    stepped loss c.args.world.now c.act-answer.new.self (happening.Do c.office-office.result c.in-Some.rule) c.act-answer.result refl
    (sym (rule_there c.args.world.now c.office-office.result c.office.result.now c.next_rule.result c.office.ensures.site c.office.ensures.plan c.office.ensures.number c.next_rule.ensures.first) ∙ c.in-Some.is)
    kept c.act-answer.ensures) c.unless_memory.ensures
