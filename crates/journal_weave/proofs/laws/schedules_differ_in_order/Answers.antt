use Rattle.journal_weave.proofs.WorldRecords.{schedules_differ_in_order}
use Rattle.journal_weave.proofs.laws.schedules_differ_in_order.Goals as goal

pub returns : goal.returns
returns c = schedules_differ_in_order c.finished_have_their_tickets.ensures c.each_office_is_told.ensures
