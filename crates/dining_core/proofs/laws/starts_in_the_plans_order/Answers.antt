use Rattle.dining_core.proofs.ForkLaws.{starts_in_order}
use Rattle.dining_core.proofs.laws.starts_in_the_plans_order.Goals as goal

pub returns : goal.returns
returns c = starts_in_order
