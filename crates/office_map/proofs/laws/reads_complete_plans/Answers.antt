use Rattle.office_map.proofs.AcceptedPlans.{complete}
use Rattle.office_map.proofs.laws.reads_complete_plans.Goals as goal

pub returns : goal.returns
returns c = complete
