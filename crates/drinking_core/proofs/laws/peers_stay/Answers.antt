use Rattle.drinking_core.proofs.StayingParts.{peers_stay}
use Rattle.drinking_core.proofs.laws.peers_stay.Goals as goal

pub returns : goal.returns
returns c = peers_stay
