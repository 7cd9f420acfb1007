use Rattle.std.proofs.Common.{rules}
use Rattle.frame_codec.proofs.frame.Frame.number.Goals as goal

pub returns-clause-value : goal.returns-clause-value
returns-clause-value c = cc

pub returns-clause-range : goal.returns-clause-range
returns-clause-range c = search rules
