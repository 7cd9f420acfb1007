use Rattle.std.proofs.Common.{rules}
use Rattle.locked_office.proofs.desk.Desk.try_withdraw.Goals as goal

pub returns-clause-withdrawn : goal.returns-clause-withdrawn
returns-clause-withdrawn c = search rules
