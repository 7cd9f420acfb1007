use Rattle.frame_world.proofs.HeadlineLaws.{who_drinks_has_its_bottles}
use Rattle.frame_world.proofs.laws.who_drinks_has_its_bottles.Goals as goal

pub returns : goal.returns
returns c = who_drinks_has_its_bottles c.parts_hold.ensures
