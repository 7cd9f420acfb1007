use Rattle.std.proofs.Common.{sym, subst, true}
use Rattle.dining_core.specs.refinement.Tables.{diner_of}
use Rattle.dining_core.specs.refinement.Masks.{AreMasks}
use Rattle.dining_core.proofs.MaskUpdates.{IsPut, token_came}
use Rattle.dining_core.proofs.masked_table.MaskedTable.got_token.Goals as goal

pub invariant_of-self : goal.invariant_of-self
invariant_of-self c =
    let s = c.self.inside in
    subst (λ d. AreMasks d s.near s.held s.clean c.set.new.self) (sym c.got_token.ensures)
    (token_came (diner_of s.table) s.near s.held s.clean s.tokens c.set.new.self c.args.v c.self.invariant (subst (λ n. IsPut s.tokens c.set.new.self n true) c.number.ensures c.set.ensures))
