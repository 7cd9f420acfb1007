use Rattle.std.proofs.Common.{ap, ◌∙◌}
use Rattle.session_machine.specs.refinement.Work.{piece}
use Rattle.session_machine.proofs.WorkPhases.{work_adds, progress_is}
use Rattle.session_machine.proofs.work.Work.step.Goals as goal

pub returns-in-None-clause-piece : goal.returns-in-None-clause-piece
returns-in-None-clause-piece c = c.in-None.ensures ∙ ap (piece c.args.code.now c.args.n) c.self.view_is

pub returns-in-None-clause-work : goal.returns-in-None-clause-work
returns-in-None-clause-work c p reads k ec eo = work_adds p reads k c.args.n c.args.code.now c.args.self.now _ (returns-in-None-clause-piece c) ec eo

pub returns-in-None-clause-progress : goal.returns-in-None-clause-progress
returns-in-None-clause-progress c p reads k room ec eo = progress_is p reads k c.args.n c.args.code.now c.args.self.now _ _ c.progress.ensures (returns-in-None-clause-piece c) room ec eo

pub returns-in-Some-clause-piece : goal.returns-in-Some-clause-piece
returns-in-Some-clause-piece c = c.close.ensures ∙ c.in-Some.ensures ∙ ap (piece c.args.code.now c.args.n) c.self.view_is

pub returns-in-Some-clause-work : goal.returns-in-Some-clause-work
returns-in-Some-clause-work c p reads k ec eo = work_adds p reads k c.args.n c.args.code.now c.args.self.now _ (returns-in-Some-clause-piece c) ec eo

pub returns-in-Some-clause-progress : goal.returns-in-Some-clause-progress
returns-in-Some-clause-progress c p reads k room ec eo = progress_is p reads k c.args.n c.args.code.now c.args.self.now _ _ c.progress-in-Some.ensures (returns-in-Some-clause-piece c) room ec eo
