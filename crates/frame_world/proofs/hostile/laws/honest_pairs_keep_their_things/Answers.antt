use Rattle.frame_world.proofs.hostile_lemmas.HonestThings.{honest_pairs_keep_their_things}
use Rattle.frame_world.proofs.hostile.laws.honest_pairs_keep_their_things.Goals as goal

pub returns : goal.returns
returns c = honest_pairs_keep_their_things c.each_has_one_place.ensures c.each_has_one_place-2.ensures (record { away = c.what_comes_was_away.ensures; away_kept = c.what_follows_was_away.ensures; peers = c.peers_stay.ensures })
