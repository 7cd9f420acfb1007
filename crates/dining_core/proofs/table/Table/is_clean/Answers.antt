use Rattle.dining_core.proofs.table.Table.is_clean.Goals as goal

pub returns : goal.returns
returns c = cc
