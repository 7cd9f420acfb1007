use Rattle.std.proofs.Common.{rules}
use Rattle.locked_office.proofs.desk.Desk.open.Goals as goal

pub returns-clause-fresh : goal.returns-clause-fresh
returns-clause-fresh c = search rules
