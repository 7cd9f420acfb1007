use Rattle.frame_world.proofs.hostile_lemmas.HonestEndings.{sessions_end_as_alone}
use Rattle.frame_world.proofs.hostile.laws.honest_sessions_end_as_alone.Goals as goal

pub returns : goal.returns
returns c = sessions_end_as_alone c.tells_what_it_read.ensures
