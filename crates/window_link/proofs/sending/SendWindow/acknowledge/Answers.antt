use Rattle.std.proofs.Common.{rules}
use Rattle.window_link.proofs.sending.SendWindow.acknowledge.Goals as goal

pub returns-else-count-self : goal.returns-else-count-self
returns-else-count-self c = search rules
