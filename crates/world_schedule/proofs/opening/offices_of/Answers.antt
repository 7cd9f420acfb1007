use Rattle.std.proofs.Common.{rules}
use Rattle.world_schedule.proofs.opening.offices_of.Goals as goal

pub returns : goal.returns
returns c = search rules
