use Rattle.std.proofs.Common.{rules}
use Rattle.simulation.proofs.scripts.script.submit.Goals as goal

pub returns : goal.returns
returns c = search rules
