use Rattle.office_map.proofs.plan.Plan.record_of_name.Goals as goal

pub returns : goal.returns
returns c = cc
