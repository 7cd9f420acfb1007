use Rattle.std.proofs.Common.{rules}
use Rattle.drinking_core.proofs.places.starts_with_token.Goals as goal

pub returns : goal.returns
returns c = search rules
