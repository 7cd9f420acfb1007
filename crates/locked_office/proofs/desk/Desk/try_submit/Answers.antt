use Rattle.std.proofs.Common.{rules}
use Rattle.locked_office.proofs.desk.Desk.try_submit.Goals as goal

pub returns-clause-submitted : goal.returns-clause-submitted
returns-clause-submitted c = search rules
