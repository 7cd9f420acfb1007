use Rattle.frame_world.proofs.hostile_lemmas.HonestSessions.{sessions_read_what_was_left}
use Rattle.frame_world.proofs.hostile.laws.honest_sessions_read_what_was_left.Goals as goal

pub returns : goal.returns
returns c = sessions_read_what_was_left (record { away = c.what_comes_was_away.ensures; away_kept = c.what_follows_was_away.ensures; peers = c.peers_stay.ensures }) (record { records = c.records_stay.ensures; begin = c.bottles_start_with_their_values.ensures; stay = c.values_stay.ensures; finishing = c.finishing_writes.ensures; written = c.writes_what_it_has.ensures; read = c.tells_what_it_read.ensures })
