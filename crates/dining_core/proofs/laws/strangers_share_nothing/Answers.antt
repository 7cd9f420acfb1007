use Rattle.dining_core.proofs.ForkPlaces.{strangers_share_nothing}
use Rattle.dining_core.proofs.laws.strangers_share_nothing.Goals as goal

pub returns : goal.returns
returns c = strangers_share_nothing
