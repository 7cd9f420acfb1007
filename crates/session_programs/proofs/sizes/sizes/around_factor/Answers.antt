use Rattle.std.proofs.Common.{rules}
use Rattle.session_programs.proofs.sizes.sizes.around_factor.Goals as goal

pub returns-in-Product : goal.returns-in-Product
returns-in-Product c = search rules
