use Rattle.drinking_core.proofs.BottleLaws.{finishing_writes}
use Rattle.drinking_core.proofs.laws.finishing_writes.Goals as goal

pub returns : goal.returns
returns c = finishing_writes
