use Rattle.frame_world.proofs.Tickets.{tickets_rise}
use Rattle.frame_world.proofs.laws.tickets_rise.Goals as goal

pub returns : goal.returns
returns c = tickets_rise c.sessions_go_in_order.ensures
