use Rattle.std.proofs.Common.{rules}
use Rattle.window_link.proofs.laws.step.step.Goals as goal

pub returns-in-Ack-Left : goal.returns-in-Ack-Left
returns-in-Ack-Left c = search rules
