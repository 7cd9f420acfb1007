use Rattle.std.proofs.Common.{rules}
use Rattle.window_link.proofs.link.Link.waiting.Goals as goal

pub returns-clause-few : goal.returns-clause-few
returns-clause-few c = search rules

pub returns-clause-value : goal.returns-clause-value
returns-clause-value c = cc

pub returns-clause-range : goal.returns-clause-range
returns-clause-range c = search rules
