use Rattle.frame_world.proofs.FewWait.{each_is_held_or_waits}
use Rattle.frame_world.proofs.laws.each_is_held_or_waits.Goals as goal

pub returns : goal.returns
returns c = each_is_held_or_waits
