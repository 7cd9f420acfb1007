use Rattle.frame_world.proofs.laws.parts_hold.Goals as goal

pub returns : goal.returns
returns c = record {
  away = c.what_comes_was_away.ensures;
  away_kept = c.what_follows_was_away.ensures;
  written = c.writes_what_it_has.ensures;
  records = c.records_stay.ensures;
  peers = c.peers_stay.ensures;
  begin = c.bottles_start_with_their_values.ensures;
  stay = c.values_stay.ensures;
  finishing = c.finishing_writes.ensures;
}
