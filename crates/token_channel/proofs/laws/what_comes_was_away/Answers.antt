use Rattle.token_channel.proofs.FrameArrival.{came_from_away}
use Rattle.token_channel.proofs.laws.what_comes_was_away.Goals as goal

pub returns : goal.returns
returns c = came_from_away
