use Rattle.std.proofs.Common.{sym, subst, false}
use Rattle.dining_core.specs.refinement.Tables.{diner_of}
use Rattle.dining_core.specs.refinement.Masks.{AreMasks}
use Rattle.dining_core.proofs.MaskUpdates.{IsPut, given}
use Rattle.dining_core.proofs.masked_table.MaskedTable.give_fork.Goals as goal

pub invariant_of-self-2 : goal.invariant_of-self-2
invariant_of-self-2 c =
    let s = c.self.inside in
    subst (λ d. AreMasks d s.near c.clear.new.self s.clean s.tokens) (sym c.in_ok-give_fork.ensures.done)
    (given (diner_of s.table) s.near s.held s.clean s.tokens c.clear.new.self c.args.v c.self.invariant (subst (λ n. IsPut s.held c.clear.new.self n false) c.number.ensures c.clear.ensures.cleared))
