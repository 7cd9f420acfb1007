use Rattle.dining_core.proofs.ForkLaws.{only_eating_turns}
use Rattle.dining_core.proofs.laws.only_eating_turns.Goals as goal

pub returns : goal.returns
returns c = only_eating_turns
