use Rattle.std.proofs.Common.{rules}
use Rattle.site_core.proofs.office.Office.tickets.Goals as goal

pub returns : goal.returns
returns c = search rules
