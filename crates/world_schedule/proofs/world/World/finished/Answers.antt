use Rattle.std.proofs.Common.{◌≡◌, map, subst, ◌∙◌}
use Rattle.frame_world.specs.Worlds.{World}
use Rattle.world_schedule.specs.Readers.{listed_as}
use Rattle.world_schedule.specs.refinement.WorldOfCode.{frames_in}
use Rattle.world_schedule.proofs.Finishing.{listed}
use Rattle.world_schedule.proofs.world.World.finished.Goals as goal

pub returns-clause-listed : goal.returns-clause-listed
returns-clause-listed c =
    let w = c.self.inside in
    c.as_slice.ensures.value ∙ subst (λ (v : World). w.finished.items ≡ map listed_as v.finished) c.self.view_is (listed w.plan w.offices.items (frames_in w.plan w.offices.items w.sent.items) w.finished.items c.self.invariant.0)
