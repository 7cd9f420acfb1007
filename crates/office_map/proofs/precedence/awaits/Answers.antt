use Rattle.std.proofs.Common.{rules}
use Rattle.office_map.proofs.precedence.awaits.Goals as goal

pub returns-then-eq : goal.returns-then-eq
returns-then-eq c = search rules
