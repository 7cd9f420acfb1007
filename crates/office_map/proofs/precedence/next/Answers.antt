use Rattle.std.proofs.Common.{rules}
use Rattle.office_map.proofs.precedence.next.Goals as goal

pub returns-then-is_none : goal.returns-then-is_none
returns-then-is_none c = search rules

pub loop-number-preserved : goal.loop-number-preserved
loop-number-preserved c = search rules
