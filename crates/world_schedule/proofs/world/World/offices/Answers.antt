use Rattle.world_schedule.proofs.world.World.offices.Goals as goal

pub returns-clause-all : goal.returns-clause-all
returns-clause-all c = cc

pub returns-clause-one_each : goal.returns-clause-one_each
returns-clause-one_each c = cc
