use Rattle.drinking_core.proofs.BottleLaws.{bottles_start}
use Rattle.drinking_core.proofs.laws.bottles_start_with_their_values.Goals as goal

pub returns : goal.returns
returns c = bottles_start
