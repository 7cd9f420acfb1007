use Rattle.std.proofs.Common.{rules}
use Rattle.session_meaning.proofs.Refilled.{filled}
use Rattle.session_meaning.proofs.variables.Variables.restart.Goals as goal

pub returns-clause-begun : goal.returns-clause-begun
returns-clause-begun c = search (rules, filled)
