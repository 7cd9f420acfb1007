use Rattle.std.proofs.Common.{refl, subst}
use Rattle.office_journal.specs.declared.event.Event.TheVariants as event
use Rattle.frame_world.specs.declared.event.WorldEvent.TheVariants as happening
use Rattle.frame_world.specs.Worlds.{OrMemory, handed}
use Rattle.world_schedule.specs.refinement.WorldOfCode.{world_in, frames_in}
use Rattle.world_schedule.proofs.WorldSteps.{applies, stays}
use Rattle.world_schedule.proofs.EventSteps.{beside_submit}
use Rattle.world_schedule.proofs.SentEntries.{world_stays, answer_stays}
use Rattle.world_schedule.proofs.world.World.submit.Goals as goal

pub invariant_of-self : goal.invariant_of-self
invariant_of-self c =
    let w = c.self.inside in
    let fs = frames_in w.plan w.offices.items w.sent.items in
    let e = event.Submit c.args.program.now in
    world_stays w.plan w.offices.items c.args.at e c.submit.result c.submit.new.offices.items w.sent.items w.finished.items c.submit.ensures c.self.invariant.1
    (stays w.plan w.offices.items c.submit.new.offices.items fs fs w.finished.items w.finished.items c.args.at e c.submit.result (happening.Submit c.args.at c.args.program.now) c.self.invariant.0 c.submit.ensures
    (beside_submit w.plan w.offices.items c.args.at c.args.program.now c.submit.result c.submit.new.offices.items fs w.finished.items) refl)

pub returns : goal.returns
returns c =
    let w = c.self.inside in
    let fs = frames_in w.plan w.offices.items w.sent.items in
    let e = event.Submit c.args.program.now in
    answer_stays w.plan w.offices.items c.args.at e c.submit.result c.submit.new.offices.items w.sent.items w.finished.items c.args.self.now (handed c.args.self.now c.args.at e) c.submit.ensures c.self.invariant.1
    (subst (λ x. OrMemory x (handed x c.args.at e) c.submit.result (world_in w.plan c.submit.new.offices.items fs w.finished.items)) c.self.view_is
    (applies w.plan w.offices.items c.submit.new.offices.items fs fs w.finished.items w.finished.items c.args.at e c.submit.result c.self.invariant.0 c.submit.ensures
    (beside_submit w.plan w.offices.items c.args.at c.args.program.now c.submit.result c.submit.new.offices.items fs w.finished.items)))
