use Rattle.std.proofs.Common.{sym, ap, ◌∙◌}
use Rattle.session_machine.specs.refinement.Work.{ending_in}
use Rattle.session_machine.specs.refinement.PhaseOfCode.{work_in}
use Rattle.session_machine.proofs.WorkPhases.{none_yet, work_ends, by_ending}
use Rattle.session_machine.proofs.work.Work.ending.Goals as goal

pub returns-in-Over-clause-shown : goal.returns-in-Over-clause-shown
returns-in-Over-clause-shown c = ap (λ p. ending_in (work_in p)) (sym c.in-Over.is) ∙ ap ending_in c.self.view_is

pub returns-in-Over-clause-ending : goal.returns-in-Over-clause-ending
returns-in-Over-clause-ending c p reads k room e = returns-in-Over-clause-shown c ∙ work_ends p reads k c.args.self.now room e

pub returns-in-Over-clause-over : goal.returns-in-Over-clause-over
returns-in-Over-clause-over c = by_ending c.args.self.now _ (returns-in-Over-clause-shown c)

pub returns-in_default-clause-shown : goal.returns-in_default-clause-shown
returns-in_default-clause-shown c = none_yet c.self.inside.phase c.in_default.not-Over ∙ ap ending_in c.self.view_is

pub returns-in_default-clause-ending : goal.returns-in_default-clause-ending
returns-in_default-clause-ending c p reads k room e = returns-in_default-clause-shown c ∙ work_ends p reads k c.args.self.now room e

pub returns-in_default-clause-over : goal.returns-in_default-clause-over
returns-in_default-clause-over c = by_ending c.args.self.now _ (returns-in_default-clause-shown c)
