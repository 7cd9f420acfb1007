use Rattle.office_map.proofs.ids.OfficeId.number.Goals as goal

pub returns : goal.returns
returns c = cc
