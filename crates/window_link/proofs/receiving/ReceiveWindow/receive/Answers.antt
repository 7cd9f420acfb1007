use Rattle.std.proofs.Common.{rules}
use Rattle.window_link.proofs.receiving.ReceiveWindow.receive.Goals as goal

pub returns-clause-window : goal.returns-clause-window
returns-clause-window c = search rules

pub returns-clause-arrival : goal.returns-clause-arrival
returns-clause-arrival c = search rules

pub returns-then-number-self-2-clause-arrival : goal.returns-then-number-self-2-clause-arrival
returns-then-number-self-2-clause-arrival c = search rules

pub returns-then-number-self-clause-arrival : goal.returns-then-number-self-clause-arrival
returns-then-number-self-clause-arrival c = search rules
