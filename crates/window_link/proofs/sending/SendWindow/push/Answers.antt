use Rattle.std.proofs.Common.{rules}
use Rattle.window_link.proofs.sending.SendWindow.push.Goals as goal

pub returns-clause-ok : goal.returns-clause-ok
returns-clause-ok c = search rules

pub returns-clause-worn : goal.returns-clause-worn
returns-clause-worn c = search rules
