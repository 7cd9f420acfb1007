use Rattle.std.proofs.Common.{refl, subst}
use Rattle.office_journal.specs.declared.event.Event.TheVariants as event
use Rattle.frame_world.specs.declared.event.WorldEvent.TheVariants as happening
use Rattle.frame_world.specs.Worlds.{OrMemory, handed}
use Rattle.world_schedule.specs.refinement.WorldOfCode.{world_in, frames_in}
use Rattle.world_schedule.proofs.WorldSteps.{applies, stays}
use Rattle.world_schedule.proofs.EventSteps.{beside_withdraw}
use Rattle.world_schedule.proofs.SentEntries.{world_stays, answer_stays}
use Rattle.world_schedule.proofs.world.World.withdraw.Goals as goal

pub invariant_of-self : goal.invariant_of-self
invariant_of-self c =
    let w = c.self.inside in
    let fs = frames_in w.plan w.offices.items w.sent.items in
    let e = event.Withdraw c.args.ticket in
    world_stays w.plan w.offices.items c.args.at e c.withdraw.result c.withdraw.new.offices.items w.sent.items w.finished.items c.withdraw.ensures c.self.invariant.1
    (stays w.plan w.offices.items c.withdraw.new.offices.items fs fs w.finished.items w.finished.items c.args.at e c.withdraw.result (happening.Withdraw c.args.at c.args.ticket) c.self.invariant.0 c.withdraw.ensures
    (beside_withdraw w.plan w.offices.items c.args.at c.args.ticket c.withdraw.result c.withdraw.new.offices.items fs w.finished.items) refl)

pub returns : goal.returns
returns c =
    let w = c.self.inside in
    let fs = frames_in w.plan w.offices.items w.sent.items in
    let e = event.Withdraw c.args.ticket in
    answer_stays w.plan w.offices.items c.args.at e c.withdraw.result c.withdraw.new.offices.items w.sent.items w.finished.items c.args.self.now (handed c.args.self.now c.args.at e) c.withdraw.ensures c.self.invariant.1
    (subst (λ x. OrMemory x (handed x c.args.at e) c.withdraw.result (world_in w.plan c.withdraw.new.offices.items fs w.finished.items)) c.self.view_is
    (applies w.plan w.offices.items c.withdraw.new.offices.items fs fs w.finished.items w.finished.items c.args.at e c.withdraw.result c.self.invariant.0 c.withdraw.ensures
    (beside_withdraw w.plan w.offices.items c.args.at c.args.ticket c.withdraw.result c.withdraw.new.offices.items fs w.finished.items)))
