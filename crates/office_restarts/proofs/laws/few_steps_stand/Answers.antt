use Rattle.office_restarts.proofs.StepsStand.{few_steps_stand}
use Rattle.office_restarts.proofs.laws.few_steps_stand.Goals as goal

pub returns : goal.returns
returns c = few_steps_stand c.steps_use_up_work.ensures
