use Rattle.std.proofs.Common.{rules}
use Rattle.dining_core.proofs.table.Table.hungry.Goals as goal

pub returns : goal.returns
returns c = record { not_now = search rules; done = search rules; unchanged = search rules }
