use Rattle.token_channel.proofs.FrameArrival.{followed_from_away}
use Rattle.token_channel.proofs.laws.what_follows_was_away.Goals as goal

pub returns : goal.returns
returns c = followed_from_away
