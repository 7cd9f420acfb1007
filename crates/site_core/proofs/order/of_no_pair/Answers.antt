use Rattle.std.proofs.Common.{rules}
use Rattle.site_core.proofs.order.of_no_pair.Goals as goal

pub returns-then-may-2 : goal.returns-then-may-2
returns-then-may-2 c = search rules

pub returns-then-may-3 : goal.returns-then-may-3
returns-then-may-3 c = search rules

pub returns-then-may-5 : goal.returns-then-may-5
returns-then-may-5 c = search rules

pub returns-then-may-6 : goal.returns-then-may-6
returns-then-may-6 c = search rules

pub returns-then-may-7 : goal.returns-then-may-7
returns-then-may-7 c = search rules

pub returns-else-may-7 : goal.returns-else-may-7
returns-else-may-7 c = search rules
