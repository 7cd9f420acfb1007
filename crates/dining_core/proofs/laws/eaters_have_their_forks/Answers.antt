use Rattle.dining_core.proofs.EatersForks.{eaters_have_their_forks}
use Rattle.dining_core.proofs.laws.eaters_have_their_forks.Goals as goal

pub returns : goal.returns
returns c = eaters_have_their_forks
