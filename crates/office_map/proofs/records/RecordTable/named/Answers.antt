use Rattle.std.proofs.Common.{rules}
use Rattle.office_map.proofs.records.RecordTable.named.Goals as goal

pub returns : goal.returns
returns c = search rules
