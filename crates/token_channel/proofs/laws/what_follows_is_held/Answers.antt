use Rattle.token_channel.proofs.FrameArrival.{follows_held}
use Rattle.token_channel.proofs.laws.what_follows_is_held.Goals as goal

pub returns : goal.returns
returns c = follows_held
