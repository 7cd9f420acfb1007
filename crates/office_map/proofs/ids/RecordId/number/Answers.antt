use Rattle.office_map.proofs.ids.RecordId.number.Goals as goal

pub returns : goal.returns
returns c = cc
