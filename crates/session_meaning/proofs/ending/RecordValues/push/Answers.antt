use Rattle.std.proofs.Common.{rules}
use Rattle.session_meaning.proofs.ending.RecordValues.push.Goals as goal

pub returns-clause-pushed : goal.returns-clause-pushed
returns-clause-pushed c = search rules
