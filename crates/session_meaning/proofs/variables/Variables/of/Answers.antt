use Rattle.std.proofs.Common.{rules}
use Rattle.session_meaning.proofs.variables.Variables.of.Goals as goal

pub returns : goal.returns
returns c = search rules
