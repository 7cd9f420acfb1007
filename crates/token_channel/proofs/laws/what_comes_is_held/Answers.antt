use Rattle.token_channel.proofs.FrameArrival.{comes_held}
use Rattle.token_channel.proofs.laws.what_comes_is_held.Goals as goal

pub returns : goal.returns
returns c = comes_held
