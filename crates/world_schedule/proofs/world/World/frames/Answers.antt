use Rattle.std.proofs.Common.{◌≡◌, length, sym, ap, ◌∙◌, rules}
use Rattle.std.proofs.lemmas.List.{length-map}
use Rattle.std.specs.Prelude.{vec_len}
use Rattle.frame_world.specs.Worlds.{World}
use Rattle.world_schedule.specs.refinement.WorldOfCode.{frame_in}
use Rattle.world_schedule.proofs.world.World.frames.Goals as goal

pub returns : goal.returns
returns c =
    let w = c.self.inside in
    let len : vec_len w.sent ≡ length w.sent.items = search rules in
    c.len.ensures ∙ len ∙ sym (length-map w.sent.items (frame_in w.plan w.offices.items)) ∙ ap (λ (v : World). length v.frames) c.self.view_is
