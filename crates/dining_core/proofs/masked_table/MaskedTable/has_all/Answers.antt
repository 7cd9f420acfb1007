use Rattle.std.proofs.Common.{ap, ◌∙◌}
use Rattle.std.specs.List.{list_all}
use Rattle.dining_core.specs.refinement.Tables.{TableValue, diner_of}
use Rattle.dining_core.proofs.MaskUpdates.{all_here}
use Rattle.dining_core.proofs.masked_table.MaskedTable.has_all.Goals as goal

pub returns : goal.returns
returns c =
    let s = c.self.inside in
    all_here (diner_of s.table) s.near s.held s.clean s.tokens c.and_not.result c.first.result c.is_none.result c.self.invariant c.and_not.ensures c.first.ensures c.is_none.ensures
    ∙ ap (λ (t : TableValue). list_all (diner_of t).held t.neighbours) c.self.view_is
