use Rattle.token_channel.proofs.FewWait.{few}
use Rattle.token_channel.proofs.laws.few_wait.Goals as goal

pub returns : goal.returns
returns c = few
