use Rattle.std.proofs.Common.{rules}
use Rattle.office_map.proofs.plan.Plan.record_name.Goals as goal

pub returns : goal.returns
returns c = search rules
