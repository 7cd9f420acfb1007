use Rattle.std.proofs.Common.{rules}
use Rattle.locked_office.proofs.calls.copied_outcome.Goals as goal

pub returns-in_ok-copy-in-Some : goal.returns-in_ok-copy-in-Some
returns-in_ok-copy-in-Some c = search rules
