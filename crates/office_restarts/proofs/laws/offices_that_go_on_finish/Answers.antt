use Rattle.office_restarts.proofs.GoingOn.{offices_that_go_on_finish}
use Rattle.office_restarts.proofs.laws.offices_that_go_on_finish.Goals as goal

pub returns : goal.returns
returns c = offices_that_go_on_finish c.steps_use_up_work.ensures c.never_stuck.ensures
