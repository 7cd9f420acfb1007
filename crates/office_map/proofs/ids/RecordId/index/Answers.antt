use Rattle.office_map.proofs.ids.RecordId.index.Goals as goal

pub returns : goal.returns
returns c = cc
