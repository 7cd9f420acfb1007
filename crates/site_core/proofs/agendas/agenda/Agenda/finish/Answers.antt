use Rattle.std.proofs.Common.{rules}
use Rattle.site_core.proofs.agendas.agenda.Agenda.finish.Goals as goal

pub into_ending-requires : goal.into_ending-requires
into_ending-requires c = search rules

pub returns-in-Working : goal.returns-in-Working
returns-in-Working c = search rules
