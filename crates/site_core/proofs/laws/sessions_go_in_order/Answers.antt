use Rattle.site_core.proofs.SessionsInOrder.{in_order}
use Rattle.site_core.proofs.laws.sessions_go_in_order.Goals as goal

pub returns : goal.returns
returns c = in_order
