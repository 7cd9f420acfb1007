use Rattle.std.proofs.Common.{rules}
use Rattle.locked_office.proofs.calls.waits.Goals as goal

pub returns : goal.returns
returns c = search rules
