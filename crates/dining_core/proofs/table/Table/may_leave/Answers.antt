use Rattle.std.proofs.Common.{rules}
use Rattle.dining_core.proofs.table.Table.may_leave.Goals as goal

pub returns-then-matches : goal.returns-then-matches
returns-then-matches c = search rules
