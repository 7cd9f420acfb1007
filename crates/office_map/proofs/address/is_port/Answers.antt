use Rattle.office_map.proofs.address.is_port.Goals as goal

pub returns : goal.returns
returns c = cc
