use Rattle.office_map.proofs.ids.OfficeId.index.Goals as goal

pub returns : goal.returns
returns c = cc
