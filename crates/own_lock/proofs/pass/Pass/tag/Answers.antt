use Rattle.std.proofs.Common.{rules}
use Rattle.own_lock.proofs.pass.Pass.tag.Goals as goal

pub returns-clause-mine : goal.returns-clause-mine
returns-clause-mine c = search rules

pub returns-clause-value : goal.returns-clause-value
returns-clause-value c = search rules

pub returns-clause-range : goal.returns-clause-range
returns-clause-range c = search rules
