use Rattle.site_core.proofs.OfficeSteps.{steps_add}
use Rattle.site_core.proofs.laws.steps_add_their_entry.Goals as goal

pub returns : goal.returns
returns c = steps_add
