use Rattle.session_meaning.proofs.StepsAreCounted.{counted}
use Rattle.session_meaning.proofs.laws.length_counts_steps.Goals as goal

pub returns : goal.returns
returns c = counted
