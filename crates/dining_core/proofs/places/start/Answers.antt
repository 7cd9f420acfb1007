use Rattle.std.proofs.Common.{rules}
use Rattle.dining_core.proofs.places.start.Goals as goal

pub returns-then-near-2 : goal.returns-then-near-2
returns-then-near-2 c = search rules
