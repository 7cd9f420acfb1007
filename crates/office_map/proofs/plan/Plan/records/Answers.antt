use Rattle.std.proofs.Common.{arith}
use Rattle.office_map.proofs.plan.Plan.records.Goals as goal

pub returns-clause-count : goal.returns-clause-count
returns-clause-count c = cc

pub returns-clause-numbered : goal.returns-clause-numbered
returns-clause-numbered c = omega arith
