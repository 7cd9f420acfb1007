use Rattle.std.proofs.Common.{rules}
use Rattle.site_core.proofs.agendas.agenda.Agenda.submit.Goals as goal

pub returns-clause-done : goal.returns-clause-done
returns-clause-done c = search rules
