use Rattle.std.proofs.Common.{sym, ap, ◌∙◌, rules}
use Rattle.session_machine.specs.refinement.PhaseOfCode.{work_in}
use Rattle.session_machine.proofs.WorkPhases.{ended_with}
use Rattle.session_machine.proofs.work.Work.into_ending.Goals as goal

pub returns-clause-ending : goal.returns-clause-ending
returns-clause-ending c p reads k room e = ended_with p reads k c.in-Over.ending c.args.self room (ap work_in (sym c.in-Over.is) ∙ c.self.view_is) e

pub returns-clause-shown : goal.returns-clause-shown
returns-clause-shown c = search rules
