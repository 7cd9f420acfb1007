use Rattle.std.proofs.Common.{sym, ap, ◌∙◌}
use Rattle.std.specs.Box.{with_value}
use Rattle.std.specs.List.{slice_get}
use Rattle.session_machine.specs.refinement.Instructions.{run}
use Rattle.session_machine.specs.refinement.PhaseOfCode.{work_in}
use Rattle.session_machine.specs.refinement.StateOfCode.{state_of}
use Rattle.session_machine.proofs.WorkPhases.{work_is, piece_is, stays}
use Rattle.session_machine.proofs.phase.Phase.advance.Goals as goal

pub returns-in-AtWork : goal.returns-in-AtWork
returns-in-AtWork c =
    work_is c.in-AtWork.field-0 c.advance.result (with_value c.in-AtWork.state c.advance.new.state)
    ∙ piece_is c.args.code.now c.args.n (work_in c.args.self.now) c.lines.result.now c.in-AtWork.field-0 (state_of c.in-AtWork.state.value) _ c.lines.ensures.all (ap work_in (sym c.in-AtWork.is))
    (c.advance.ensures ∙ ap (λ s. run (slice_get c.lines.result.now) c.args.n (state_of s)) c.deref_mut.ensures.value)

pub returns-in_default : goal.returns-in_default
returns-in_default c = stays c.args.code.now c.args.n c.args.self.now c.in_default.not-AtWork
