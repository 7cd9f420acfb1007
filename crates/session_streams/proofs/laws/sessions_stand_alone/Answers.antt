use Rattle.session_streams.proofs.PartsHeard.{sessions_stand_alone}
use Rattle.session_streams.proofs.laws.sessions_stand_alone.Goals as goal

pub returns : goal.returns
returns c = sessions_stand_alone
