use Rattle.serving.proofs.AllRounds.{each_once}
use Rattle.serving.proofs.laws.each_is_answered_once.Goals as goal

pub returns : goal.returns
returns c = each_once
