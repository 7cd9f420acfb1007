use Rattle.std.proofs.Common.{rules}
use Rattle.frame_codec.proofs.frame.Frame.ack.Goals as goal

pub returns : goal.returns
returns c = cc

pub invariant_of-result : goal.invariant_of-result
invariant_of-result c = search rules
