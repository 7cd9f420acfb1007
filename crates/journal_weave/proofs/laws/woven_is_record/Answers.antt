use Rattle.journal_weave.proofs.WorldRecords.{woven_is_record}
use Rattle.journal_weave.proofs.laws.woven_is_record.Goals as goal

pub returns : goal.returns
returns c = woven_is_record
