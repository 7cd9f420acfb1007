use Rattle.office_map.proofs.plan.Plan.run.Goals as goal

pub returns : goal.returns
returns c = cc
