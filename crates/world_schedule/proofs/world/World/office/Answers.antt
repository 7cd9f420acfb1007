use Rattle.world_schedule.specs.refinement.WorldOfCode.{frames_in}
use Rattle.world_schedule.proofs.Finishing.{site_of_world}
use Rattle.world_schedule.proofs.world.World.office.Goals as goal

pub returns-clause-plan : goal.returns-clause-plan
returns-clause-plan c =
    let w = c.self.inside in
    (site_of_world w.plan w.offices.items (frames_in w.plan w.offices.items w.sent.items) w.finished.items c.args.self.now c.args.id c.index.result c.index-2.result.now c.self.invariant.0 c.self.view_is c.requires c.index.ensures c.index-2.ensures).0

pub returns-clause-number : goal.returns-clause-number
returns-clause-number c =
    let w = c.self.inside in
    (site_of_world w.plan w.offices.items (frames_in w.plan w.offices.items w.sent.items) w.finished.items c.args.self.now c.args.id c.index.result c.index-2.result.now c.self.invariant.0 c.self.view_is c.requires c.index.ensures c.index-2.ensures).1
