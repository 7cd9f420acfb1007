use Rattle.dining_core.proofs.table.Table.neighbours.Goals as goal

pub returns : goal.returns
returns c = cc
