use Rattle.dining_core.proofs.table.Table.phase.Goals as goal

pub returns : goal.returns
returns c = cc
