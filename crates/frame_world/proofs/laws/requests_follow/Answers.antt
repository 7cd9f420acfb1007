use Rattle.frame_world.proofs.work.RequestsKept.{requests_follow}
use Rattle.frame_world.proofs.laws.requests_follow.Goals as goal

pub returns : goal.returns
returns c = requests_follow c.each_has_one_place.ensures c.each_has_one_place-2.ensures c.peers_stay.ensures
