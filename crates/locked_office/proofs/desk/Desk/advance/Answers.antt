use Rattle.std.proofs.Common.{rules}
use Rattle.locked_office.proofs.desk.Desk.advance.Goals as goal

pub returns-clause-advanced : goal.returns-clause-advanced
returns-clause-advanced c = search rules
