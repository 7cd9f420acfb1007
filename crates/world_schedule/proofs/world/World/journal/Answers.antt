use Rattle.std.proofs.Common.{rules}
use Rattle.world_schedule.proofs.world.World.journal.Goals as goal

pub returns-clause-legal : goal.returns-clause-legal
returns-clause-legal c = search rules

pub returns-clause-entries : goal.returns-clause-entries
returns-clause-entries c = cc
