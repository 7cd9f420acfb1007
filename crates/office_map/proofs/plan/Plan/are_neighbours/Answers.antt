use Rattle.office_map.proofs.plan.Plan.are_neighbours.Goals as goal

pub returns : goal.returns
returns c = cc
