use Rattle.std.proofs.Common.{rules}
use Rattle.site_core.proofs.agendas.agenda.Agenda.work.Goals as goal

pub returns : goal.returns
returns c = search rules
