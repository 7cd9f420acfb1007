use Rattle.std.proofs.Common.{sym, subst, true}
use Rattle.dining_core.specs.refinement.Tables.{diner_of}
use Rattle.dining_core.specs.refinement.Masks.{AreMasks}
use Rattle.dining_core.proofs.MaskUpdates.{IsPut, fork_came}
use Rattle.dining_core.proofs.masked_table.MaskedTable.got_fork.Goals as goal

pub invariant_of-self : goal.invariant_of-self
invariant_of-self c =
    let s = c.self.inside in
    subst (λ d. AreMasks d s.near c.set.new.self c.set-2.new.self s.tokens) (sym c.got_fork.ensures)
    (fork_came (diner_of s.table) s.near s.held s.clean s.tokens c.set.new.self c.set-2.new.self c.args.v c.self.invariant (subst (λ n. IsPut s.held c.set.new.self n true) c.number.ensures c.set.ensures) (subst (λ n. IsPut s.clean c.set-2.new.self n true) c.number-2.ensures c.set-2.ensures))
