use Rattle.std.proofs.Common.{refl, sym, subst, inr}
use Rattle.office_journal.specs.declared.event.Event.TheVariants as events
use Rattle.journal_weave.specs.refinement.Merging.{IsFound}
use Rattle.journal_weave.proofs.merge.Merge.arrival_of.Goals as goal

pub returns-in_err-k : goal.returns-in_err-k
returns-in_err-k c = λ frames knows.
    subst (IsFound frames c.args.a (events.Took c.args.frame.now)) (sym c.from_residual.ensures) (λ one. record { frame = c.args.frame.now; takes = refl; lacks = inr (c.in_err-k.ensures.never frames knows one) })
