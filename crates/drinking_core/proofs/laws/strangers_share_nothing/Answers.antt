use Rattle.drinking_core.proofs.BottlePlaces.{strangers_share_nothing}
use Rattle.drinking_core.proofs.laws.strangers_share_nothing.Goals as goal

pub returns : goal.returns
returns c = strangers_share_nothing
