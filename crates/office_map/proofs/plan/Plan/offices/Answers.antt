use Rattle.std.proofs.Common.{arith}
use Rattle.office_map.proofs.plan.Plan.offices.Goals as goal

pub returns-clause-few : goal.returns-clause-few
returns-clause-few c = omega arith

pub returns-clause-count : goal.returns-clause-count
returns-clause-count c = cc
