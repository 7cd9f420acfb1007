use Rattle.frame_world.proofs.HeadlineLaws.{bottles_are_serial}
use Rattle.frame_world.proofs.laws.bottles_are_serial.Goals as goal

pub returns : goal.returns
returns c = bottles_are_serial c.parts_hold.ensures c.each_has_its_spots.ensures c.no_other_spot.ensures
