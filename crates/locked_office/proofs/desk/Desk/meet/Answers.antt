use Rattle.std.proofs.Common.{rules}
use Rattle.locked_office.proofs.desk.Desk.meet.Goals as goal

pub returns-clause-seen : goal.returns-clause-seen
returns-clause-seen c = cc

pub returns-clause-stays : goal.returns-clause-stays
returns-clause-stays c = search rules

pub returns-clause-first : goal.returns-clause-first
returns-clause-first c = search rules

pub returns-clause-second : goal.returns-clause-second
returns-clause-second c = search rules

pub returns-clause-first_mine : goal.returns-clause-first_mine
returns-clause-first_mine c = cc

pub returns-clause-mine : goal.returns-clause-mine
returns-clause-mine c = cc
