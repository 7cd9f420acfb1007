use Rattle.std.proofs.Common.{◌-◌, refl, arith, inl}
use Rattle.std.proofs.lemmas.Grind.{common_steps}
use Rattle.frame_world.specs.declared.event.WorldEvent.TheVariants as happening
use Rattle.simulation.specs.random.Runs.{Lost, Unsent}
use Rattle.simulation.proofs.random_lemmas.Running.{on_ok, stepped}
use Rattle.simulation.proofs.random.steps.deliver.Goals as goal

pub returns-then-frames-eq0 : goal.returns-then-frames-eq0
returns-then-frames-eq0 c =
    let sent = c.frames-frames.ensures in
    let none = c.if-frames-eq0.true in
    inl (Unsent (omega (arith, sent, none)), refl)

pub returns-then-below-loss : goal.returns-then-below-loss
returns-then-below-loss c =
    let lost = c.if-below-loss.true in
    inl (Lost (omega (arith, lost)), refl)

pub returns : goal.returns
returns c =
    let sent = c.frames-frames.ensures in
    let some = c.if-frames-eq0.false in
    let back = c.below-later.ensures in
    let least = c.min.ensures in
    let drawn = c.below.ensures in
    let kept = c.if-below-loss.false in
    on_ok c.unless_memory.result _ _ (λ fine.
    stepped c.args.loss c.args.world.now c.deliver-answer.new.self (happening.Deliver (c.frames-frames.result - c.below-later.result)) c.deliver-answer.result refl
    (omega (arith, drawn, kept), (grind (arith, common_steps, sent, some, back, least), grind (arith, common_steps, sent, some, back, least), grind (arith, common_steps, sent, some, back, least)))
    fine c.deliver-answer.ensures) c.unless_memory.ensures
