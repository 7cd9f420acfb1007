use Rattle.std.proofs.Common.{rules}
use Rattle.office_map.proofs.plan_entries.pair_index.Goals as goal

pub returns-else-lt-clause-place : goal.returns-else-lt-clause-place
returns-else-lt-clause-place c = search rules
