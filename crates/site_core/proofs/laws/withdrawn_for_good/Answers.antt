use Rattle.site_core.proofs.WithdrawnSessions.{withdrawn_for_good}
use Rattle.site_core.proofs.laws.withdrawn_for_good.Goals as goal

pub returns : goal.returns
returns c = withdrawn_for_good
