use Rattle.std.proofs.Common.{rules}
use Rattle.window_link.proofs.link.Link.check.Goals as goal

pub returns : goal.returns
returns c = search rules

pub returns-then-count-last_number : goal.returns-then-count-last_number
returns-then-count-last_number c = search rules
