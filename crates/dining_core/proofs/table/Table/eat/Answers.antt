use Rattle.std.proofs.Common.{rules}
use Rattle.dining_core.proofs.table.Table.eat.Goals as goal

pub returns-then-not-may_eat : goal.returns-then-not-may_eat
returns-then-not-may_eat c = record { not_now = search rules; done = search rules; unchanged = search rules }
