use Rattle.office_restarts.proofs.Restarts.{restarts_are_one_world}
use Rattle.office_restarts.proofs.laws.restarts_are_one_world.Goals as goal

pub returns : goal.returns
returns c = restarts_are_one_world c.woven_is_serial.ensures
