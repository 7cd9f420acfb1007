use Rattle.frame_world.proofs.OneMessage.{numbers_tell_messages}
use Rattle.frame_world.proofs.laws.numbers_tell_messages.Goals as goal

pub returns : goal.returns
returns c = numbers_tell_messages
