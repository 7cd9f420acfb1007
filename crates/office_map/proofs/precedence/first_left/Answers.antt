use Rattle.std.proofs.Common.{rules}
use Rattle.office_map.proofs.precedence.first_left.Goals as goal

pub loop-number-preserved : goal.loop-number-preserved
loop-number-preserved c = search rules
