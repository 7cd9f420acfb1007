use Rattle.token_channel.proofs.Opening.{opens}
use Rattle.token_channel.proofs.laws.opens_as_the_plan_starts.Goals as goal

pub returns : goal.returns
returns c = opens
