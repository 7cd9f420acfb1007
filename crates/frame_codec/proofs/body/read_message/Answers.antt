use Rattle.std.proofs.Common.{rules}
use Rattle.frame_codec.proofs.body.read_message.Goals as goal

pub returns-in-len1-up-clause-fault : goal.returns-in-len1-up-clause-fault
returns-in-len1-up-clause-fault c = search rules
