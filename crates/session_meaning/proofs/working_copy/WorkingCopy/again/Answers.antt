use Rattle.std.proofs.Common.{rules}
use Rattle.session_meaning.proofs.working_copy.WorkingCopy.again.Goals as goal

pub returns : goal.returns
returns c = search rules
