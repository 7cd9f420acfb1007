use Rattle.std.proofs.Common.{sym, subst}
use Rattle.dining_core.specs.refinement.Tables.{diner_of}
use Rattle.dining_core.specs.refinement.Masks.{AreMasks}
use Rattle.dining_core.proofs.MaskUpdates.{left}
use Rattle.dining_core.proofs.masked_table.MaskedTable.leave.Goals as goal

pub invariant_of-self-2 : goal.invariant_of-self-2
invariant_of-self-2 c =
    let s = c.self.inside in
    subst (λ d. AreMasks d s.near s.held s.clean s.tokens) (sym c.in_ok-leave.ensures.done)
    (left (diner_of s.table) s.near s.held s.clean s.tokens c.args.thirsty c.self.invariant)
