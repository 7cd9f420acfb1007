use Rattle.dining_core.proofs.table.Table.holds.Goals as goal

pub returns : goal.returns
returns c = cc
