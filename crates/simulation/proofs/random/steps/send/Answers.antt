use Rattle.std.proofs.Common.{◌≡◌, ◌≤◌, length, refl, sym, ap, subst, ◌∙◌, inl, arith}
use Rattle.office_map.specs.PlanValue.{PlanValue}
use Rattle.site_core.specs.Journals.{Site}
use Rattle.frame_world.specs.declared.event.WorldEvent.TheVariants as happening
use Rattle.frame_world.specs.Worlds.{site_at}
use Rattle.simulation.specs.random.Runs.{Silent, messages_at}
use Rattle.simulation.specs.random.refinement.Steps.{messages_below}
use Rattle.simulation.proofs.random_lemmas.Running.{none_below, on_ok, stepped}
use Rattle.simulation.proofs.random.steps.send.Goals as goal

pub returns-then-count-eq0 : goal.returns-then-count-eq0
returns-then-count-eq0 c = λ loss.
    let w = c.args.world.now in
    let a = c.office-office.result in
    let n = c.offices-offices.result in
    let count : n ≡ length w.plan.offices = c.offices-offices.ensures.count ∙ ap (λ (p : PlanValue). length p.offices) c.plan.ensures in
    let none : messages_below (site_at w a) n ≡ 0 = subst (λ (s : Site). messages_below s n ≡ 0) c.office.ensures.site (sym c.waiting-count.ensures ∙ c.if-count-eq0.true) in
    inl (Silent a c.office-office.ensures (λ v lt. none_below (site_at w a) n none v (omega (arith, lt, count))), refl)

pub returns : goal.returns
returns c = on_ok c.unless_memory.result _ _ (λ kept loss.
    let w = c.args.world.now in
    let a = c.office-office.result in
    let to = c.message-neighbour.result in
    let count : c.offices-offices.result ≡ length w.plan.offices = c.offices-offices.ensures.count ∙ ap (λ (p : PlanValue). length p.offices) c.plan.ensures in
    let inside = c.message-neighbour.ensures.inside in
    stepped loss w c.send-answer.new.self (happening.Send a to.0 to.1) c.send-answer.result refl
    (omega (arith, inside, count), c.message-neighbour.ensures.first, subst (λ (s : Site). to.1 ≤ messages_at s to.0) c.office-2.ensures.site c.message-neighbour.ensures.waits) kept c.send-answer.ensures) c.unless_memory.ensures
