use Rattle.std.proofs.Common.{rules}
use Rattle.session_meaning.proofs.working_copy.WorkingCopy.value.Goals as goal

pub value_of-requires : goal.value_of-requires
value_of-requires c = search rules
