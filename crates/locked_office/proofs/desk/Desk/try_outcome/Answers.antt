use Rattle.std.proofs.Common.{rules}
use Rattle.locked_office.proofs.desk.Desk.try_outcome.Goals as goal

pub returns-clause-outcome : goal.returns-clause-outcome
returns-clause-outcome c = search rules
