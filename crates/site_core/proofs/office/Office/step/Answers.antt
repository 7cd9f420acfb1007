use Rattle.std.proofs.Common.{rules}
use Rattle.site_core.proofs.office.Office.step.Goals as goal

pub returns-in-Do : goal.returns-in-Do
returns-in-Do c = search rules
