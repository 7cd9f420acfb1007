use Rattle.std.proofs.Common.{rules}
use Rattle.token_channel.proofs.channel.Channel.next.Goals as goal

pub returns-then-number-taken : goal.returns-then-number-taken
returns-then-number-taken c = search rules
