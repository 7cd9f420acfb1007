use Rattle.std.proofs.Common.{arith, rules}
use Rattle.office_map.proofs.plan.Plan.ends.Goals as goal

pub returns-clause-joined : goal.returns-clause-joined
returns-clause-joined c = cc

pub returns-clause-offices : goal.returns-clause-offices
returns-clause-offices c = omega arith

pub returns-clause-different : goal.returns-clause-different
returns-clause-different c = omega arith

pub returns-clause-ends : goal.returns-clause-ends
returns-clause-ends c = search rules
