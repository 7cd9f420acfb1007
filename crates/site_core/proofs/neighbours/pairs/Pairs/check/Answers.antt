use Rattle.std.proofs.Common.{rules}
use Rattle.site_core.proofs.neighbours.pairs.Pairs.check.Goals as goal

pub returns-in-None : goal.returns-in-None
returns-in-None c = search rules
