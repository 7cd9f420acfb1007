use Rattle.std.proofs.Common.{◌≡◌, refl, subst}
use Rattle.std.specs.Prelude.{All}
use Rattle.frame_codec.specs.Frame.{IsFrame}
use Rattle.office_journal.specs.declared.event.Event.TheVariants as event
use Rattle.office_journal.specs.declared.reply.Reply.{Reply}
use Rattle.frame_world.specs.declared.event.WorldEvent.TheVariants as happening
use Rattle.frame_world.specs.Worlds.{OrMemory, handed, frames_of}
use Rattle.world_schedule.specs.refinement.WorldOfCode.{world_in, frames_in}
use Rattle.world_schedule.proofs.WorldSteps.{applies, stays}
use Rattle.world_schedule.proofs.EventSteps.{beside_send, of_ok, of_err}
use Rattle.world_schedule.proofs.SentEntries.{kept_there, frames_more, frames_same, sent_told}
use Rattle.world_schedule.proofs.world.World.send.Goals as goal

pub invariant_of-self : goal.invariant_of-self
invariant_of-self c =
    let w = c.self.inside in
    let from = c.args.from in
    let e = event.Send c.args.to c.args.i in
    let sites = w.offices.items in
    let sites' = c.send.new.offices.items in
    let sent' = c.send.new.sent.items in
    let fs = frames_in w.plan sites w.sent.items in
    let fs' = frames_in w.plan sites' sent' in
    let kept = kept_there w.plan sites from w.sent.items sent' c.send.result c.send.ensures.kept in
    let unsent = of_err (sent' ≡ w.sent.items) c.send.result c.send.ensures.unsent in (
      stays w.plan sites sites' fs fs' w.finished.items w.finished.items from e c.send.result (happening.Send from c.args.to c.args.i) c.self.invariant.0 c.send.ensures.office
          (beside_send w.plan sites from c.args.to c.args.i c.send.result sites' fs fs' w.finished.items
          (λ r is. frames_more w.plan sites from e c.send.result sites' w.sent.items sent' r c.send.ensures.office c.self.invariant.1 is (kept r is))
          (of_ok (λ (r : Reply). All IsFrame (frames_of r)) c.send.result c.send.ensures.fit)
          (λ x is. frames_same w.plan sites from e c.send.result sites' w.sent.items sent' c.send.ensures.office c.self.invariant.1 (unsent x is))) refl,
      sent_told w.plan sites from e c.send.result sites' w.sent.items sent' c.send.ensures.office c.self.invariant.1 kept unsent,
    )

pub returns : goal.returns
returns c =
    let w = c.self.inside in
    let from = c.args.from in
    let e = event.Send c.args.to c.args.i in
    let sites = w.offices.items in
    let sites' = c.send.new.offices.items in
    let sent' = c.send.new.sent.items in
    let fs = frames_in w.plan sites w.sent.items in
    let fs' = frames_in w.plan sites' sent' in
    let kept = kept_there w.plan sites from w.sent.items sent' c.send.result c.send.ensures.kept in
    let unsent = of_err (sent' ≡ w.sent.items) c.send.result c.send.ensures.unsent in
    subst (λ x. OrMemory x (handed x from e) c.send.result (world_in w.plan sites' fs' w.finished.items)) c.self.view_is
    (applies w.plan sites sites' fs fs' w.finished.items w.finished.items from e c.send.result c.self.invariant.0 c.send.ensures.office
    (beside_send w.plan sites from c.args.to c.args.i c.send.result sites' fs fs' w.finished.items
    (λ r is. frames_more w.plan sites from e c.send.result sites' w.sent.items sent' r c.send.ensures.office c.self.invariant.1 is (kept r is))
    (of_ok (λ (r : Reply). All IsFrame (frames_of r)) c.send.result c.send.ensures.fit)
    (λ x is. frames_same w.plan sites from e c.send.result sites' w.sent.items sent' c.send.ensures.office c.self.invariant.1 (unsent x is))))
