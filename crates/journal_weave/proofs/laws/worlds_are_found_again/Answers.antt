use Rattle.journal_weave.proofs.WorldRecords.{worlds_are_found_again}
use Rattle.journal_weave.proofs.laws.worlds_are_found_again.Goals as goal

pub returns : goal.returns
returns c = worlds_are_found_again c.worlds_are_woven.ensures c.schedules_differ_in_order.ensures
