use Rattle.std.proofs.Common.{rules}
use Rattle.token_channel.proofs.channel.Channel.check.Goals as goal

pub returns-else-is_breach : goal.returns-else-is_breach
returns-else-is_breach c = search rules
