use Rattle.journal_weave.proofs.WorldRecords.{worlds_are_woven}
use Rattle.journal_weave.proofs.laws.worlds_are_woven.Goals as goal

pub returns : goal.returns
returns c = worlds_are_woven c.woven_is_record.ensures
