use Rattle.frame_world.proofs.work.RequestsKept.{requests_find}
use Rattle.frame_world.proofs.laws.requests_find_their_things.Goals as goal

pub returns : goal.returns
returns c = requests_find c.each_has_one_place.ensures c.each_has_one_place-2.ensures c.peers_stay.ensures
