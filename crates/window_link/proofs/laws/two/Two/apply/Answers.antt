use Rattle.std.proofs.Common.{subst}
use Rattle.std.specs.Prelude.{IfOk}
use Rattle.window_link.specs.Two.{Happens}
use Rattle.window_link.specs.refinement.TwoLinksStep.{ends}
use Rattle.window_link.proofs.RunsExtended.{keeps_accepts, keeps_steps, happens_steps}
use Rattle.window_link.proofs.laws.two.Two.apply.Goals as goal

pub step-requires : goal.step-requires
step-requires c = keeps_accepts _ c.self.invariant

pub invariant_of-self : goal.invariant_of-self
invariant_of-self c = keeps_steps _ _ c.args.event.now c.step.result c.self.invariant c.step.ensures

pub returns-clause-happens : goal.returns-clause-happens
returns-clause-happens c =
    subst (λ t. IfOk c.step.result (λ reply. Happens t c.args.event.now reply (ends c.step.new.left c.step.new.right c.step.new.frames.items))) c.self.view_is
    (happens_steps _ _ c.args.event.now c.step.result c.step.ensures)
