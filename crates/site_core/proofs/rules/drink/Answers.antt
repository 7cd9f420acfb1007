use Rattle.std.proofs.Common.{rules}
use Rattle.site_core.proofs.rules.drink.Goals as goal

pub returns-clause-done : goal.returns-clause-done
returns-clause-done c = search rules
