use Rattle.std.proofs.Common.{◌≡◌, Some, ap, sym, subst, ◌∙◌}
use Rattle.frame_codec.specs.Frame.{Fields}
use Rattle.office_journal.specs.declared.event.Event.TheVariants as event
use Rattle.frame_world.specs.declared.event.WorldEvent.TheVariants as happening
use Rattle.frame_world.specs.Worlds.{World, OrMemory, handed, delivered, frame_at}
use Rattle.world_schedule.specs.refinement.WorldOfCode.{world_in, frames_in}
use Rattle.world_schedule.proofs.WorldSteps.{applies, stays}
use Rattle.world_schedule.proofs.EventSteps.{beside_take}
use Rattle.world_schedule.proofs.SentEntries.{world_stays, answer_stays}
use Rattle.world_schedule.proofs.world.World.deliver.Goals as goal

pub invariant_of-self : goal.invariant_of-self
invariant_of-self c =
    let w = c.self.inside in
    let fs = frames_in w.plan w.offices.items w.sent.items in
    let v : World = world_in w.plan w.offices.items fs w.finished.items in
    let f : Fields = c.in-Some.frame in
    let there : frame_at v c.args.k ≡ Some f = ap (λ x. frame_at x c.args.k) c.self.view_is ∙ sym c.in-Some.ensures in
    world_stays w.plan w.offices.items f.to (event.Took f) c.deliver.result c.deliver.new.offices.items w.sent.items w.finished.items c.deliver.ensures c.self.invariant.1
    (stays w.plan w.offices.items c.deliver.new.offices.items fs fs w.finished.items w.finished.items f.to (event.Took f) c.deliver.result (happening.Deliver c.args.k) c.self.invariant.0 c.deliver.ensures
    (beside_take w.plan w.offices.items f.to f c.deliver.result c.deliver.new.offices.items fs w.finished.items) (ap (delivered v) there))

pub returns : goal.returns
returns c =
    let w = c.self.inside in
    let fs = frames_in w.plan w.offices.items w.sent.items in
    let f : Fields = c.in-Some.frame in
    let v' : World = world_in w.plan c.deliver.new.offices.items fs w.finished.items in
    answer_stays w.plan w.offices.items f.to (event.Took f) c.deliver.result c.deliver.new.offices.items w.sent.items w.finished.items c.args.self.now (delivered c.args.self.now (frame_at c.args.self.now c.args.k)) c.deliver.ensures c.self.invariant.1
    (subst (λ x. OrMemory c.args.self.now x c.deliver.result v') (ap (delivered c.args.self.now) c.in-Some.ensures)
    (subst (λ x. OrMemory x (handed x f.to (event.Took f)) c.deliver.result v') c.self.view_is
    (applies w.plan w.offices.items c.deliver.new.offices.items fs fs w.finished.items w.finished.items f.to (event.Took f) c.deliver.result c.self.invariant.0 c.deliver.ensures
    (beside_take w.plan w.offices.items f.to f c.deliver.result c.deliver.new.offices.items fs w.finished.items))))
