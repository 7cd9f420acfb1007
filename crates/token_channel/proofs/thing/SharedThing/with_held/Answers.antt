use Rattle.std.proofs.Common.{rules}
use Rattle.token_channel.proofs.thing.SharedThing.with_held.Goals as goal

pub returns : goal.returns
returns c = search rules
