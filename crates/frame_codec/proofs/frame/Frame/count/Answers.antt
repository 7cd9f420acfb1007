use Rattle.std.proofs.Common.{arith}
use Rattle.frame_codec.proofs.frame.Frame.count.Goals as goal

pub returns-clause-value : goal.returns-clause-value
returns-clause-value c = cc

pub returns-clause-range : goal.returns-clause-range
returns-clause-range c = omega arith
