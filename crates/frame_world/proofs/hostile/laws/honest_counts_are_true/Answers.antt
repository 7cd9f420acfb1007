use Rattle.frame_world.proofs.hostile_lemmas.HonestThings.{honest_counts_are_true}
use Rattle.frame_world.proofs.hostile.laws.honest_counts_are_true.Goals as goal

pub returns : goal.returns
returns c = honest_counts_are_true (record { away = c.what_comes_was_away.ensures; away_kept = c.what_follows_was_away.ensures; peers = c.peers_stay.ensures })
