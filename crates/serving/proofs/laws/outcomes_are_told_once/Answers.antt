use Rattle.serving.proofs.AllRounds.{told_once}
use Rattle.serving.proofs.laws.outcomes_are_told_once.Goals as goal

pub returns : goal.returns
returns c = told_once
