use Rattle.office_map.proofs.ids.RecordId.new.Goals as goal

pub returns : goal.returns
returns c = cc
