use Rattle.frame_world.proofs.Tickets.{tells_each_office}
use Rattle.frame_world.proofs.laws.each_office_is_told.Goals as goal

pub returns : goal.returns
returns c = tells_each_office
