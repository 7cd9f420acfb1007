use Rattle.drinking_core.proofs.StayingParts.{records_stay}
use Rattle.drinking_core.proofs.laws.records_stay.Goals as goal

pub returns : goal.returns
returns c = records_stay
