use Rattle.token_channel.proofs.FewWait.{shared_stays}
use Rattle.token_channel.proofs.laws.what_is_shared_stays.Goals as goal

pub returns : goal.returns
returns c = shared_stays
