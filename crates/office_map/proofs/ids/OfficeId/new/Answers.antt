use Rattle.office_map.proofs.ids.OfficeId.new.Goals as goal

pub returns : goal.returns
returns c = cc
