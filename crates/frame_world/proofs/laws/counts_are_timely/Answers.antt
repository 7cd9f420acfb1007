use Rattle.frame_world.proofs.TimelyCounts.{counts_are_timely}
use Rattle.frame_world.proofs.laws.counts_are_timely.Goals as goal

pub returns : goal.returns
returns c = counts_are_timely c.links_only_grow.ensures
