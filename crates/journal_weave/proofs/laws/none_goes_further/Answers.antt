use Rattle.journal_weave.proofs.Furthest.{none_goes_further}
use Rattle.journal_weave.proofs.laws.none_goes_further.Goals as goal

pub returns : goal.returns
returns c = none_goes_further
