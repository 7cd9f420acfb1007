use Rattle.office_restarts.proofs.Restarts.{what_stood_stands}
use Rattle.office_restarts.proofs.laws.what_stood_stands.Goals as goal

pub returns : goal.returns
returns c = what_stood_stands
