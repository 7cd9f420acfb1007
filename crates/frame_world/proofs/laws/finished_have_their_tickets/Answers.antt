use Rattle.frame_world.proofs.Tickets.{have_their_tickets}
use Rattle.frame_world.proofs.laws.finished_have_their_tickets.Goals as goal

pub returns : goal.returns
returns c = have_their_tickets
