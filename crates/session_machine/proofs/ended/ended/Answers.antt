use Rattle.std.proofs.Common.{rules}
use Rattle.session_machine.proofs.ended.ended.Goals as goal

pub returns : goal.returns
returns c = search rules
