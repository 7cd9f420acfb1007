use Rattle.frame_world.proofs.StrictOrder.{order_is_strict}
use Rattle.frame_world.proofs.laws.order_is_strict.Goals as goal

pub returns : goal.returns
returns c = order_is_strict
