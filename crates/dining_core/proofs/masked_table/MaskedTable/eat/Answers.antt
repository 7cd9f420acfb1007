use Rattle.std.proofs.Common.{sym, subst}
use Rattle.dining_core.specs.refinement.Tables.{diner_of}
use Rattle.dining_core.specs.refinement.Masks.{AreMasks}
use Rattle.dining_core.proofs.MaskUpdates.{eaten}
use Rattle.dining_core.proofs.masked_table.MaskedTable.eat.Goals as goal

pub invariant_of-self : goal.invariant_of-self
invariant_of-self c =
    let s = c.self.inside in
    subst (λ d. AreMasks d s.near s.held c.empty-self-inside.result s.tokens) (sym c.begin_to_eat.ensures)
    (eaten (diner_of s.table) s.near s.held s.clean s.tokens c.empty-self-inside.result c.self.invariant c.empty-self-inside.ensures)
