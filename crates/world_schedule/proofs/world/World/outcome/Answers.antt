use Rattle.std.proofs.Common.{◌≡◌, ◌<◌, length, get_or, ap, subst, ◌∙◌}
use Rattle.std.specs.Prelude.{slice_get}
use Rattle.site_core.specs.Journals.{office_of}
use Rattle.site_core.specs.Readers.{outcome_with}
use Rattle.frame_world.specs.Worlds.{World}
use Rattle.frame_world.specs.Headline.{outcomes}
use Rattle.world_schedule.specs.refinement.WorldOfCode.{frames_in}
use Rattle.world_schedule.proofs.Finishing.{outcome_at}
use Rattle.world_schedule.proofs.world.World.outcome.Goals as goal

pub returns : goal.returns
returns c =
    let w = c.self.inside in
    let m = c.in_ok-finished.finished.now in
    let s = c.index-office.result.now in
    let found = c.in_ok-finished.ensures.lookup in
    let lt : c.args.i < length w.finished.items = subst (λ l. c.args.i < length l) c.deref.ensures.value found.3.0 in
    let here : m ≡ get_or w.finished.items c.args.i m = found.1 ∙ ap (λ l. get_or l c.args.i m) c.deref.ensures.value in
    c.outcome.ensures
    ∙ subst (λ (v : World). outcome_with (office_of s).agenda.outcomes m.ticket ≡ slice_get (outcomes v) c.args.i) c.self.view_is
    (outcome_at w.plan w.offices.items (frames_in w.plan w.offices.items w.sent.items) w.finished.items c.args.i m s c.self.invariant.0 lt here (c.index-office.ensures ∙ ap (λ k. get_or w.offices.items k s) c.index.ensures))
