use Rattle.dining_core.proofs.table.Table.has_token.Goals as goal

pub returns : goal.returns
returns c = cc
