use Rattle.std.proofs.Common.{rules}
use Rattle.token_channel.proofs.channel.Channel.frame.Goals as goal

pub returns : goal.returns
returns c = search rules
