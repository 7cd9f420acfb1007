use Rattle.std.proofs.Common.{subst, ◌∙◌}
use Rattle.office_map.specs.Consistency.{IsConsistent}
use Rattle.office_map.specs.NeighbourLaws.{near_both, near_within}
use Rattle.world_schedule.proofs.world.World.place_of.Goals as goal

pub office-requires : goal.office-requires
office-requires c =
    let p = c.args.self.now.plan in
    near_within p c.args.to c.args.from (subst IsConsistent c.plan.ensures c.offices.ensures.consistent) (near_both p c.args.to c.args.from ∙ c.requires.near)
