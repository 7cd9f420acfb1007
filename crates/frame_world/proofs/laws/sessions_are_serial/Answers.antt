use Rattle.frame_world.proofs.HeadlineLaws.{sessions_are_serial}
use Rattle.frame_world.proofs.laws.sessions_are_serial.Goals as goal

pub returns : goal.returns
returns c = sessions_are_serial c.parts_hold.ensures
