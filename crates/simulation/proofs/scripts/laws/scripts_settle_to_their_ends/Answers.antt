use Rattle.simulation.proofs.scripts_lemmas.Termination.{scripts_settle_to_their_ends}
use Rattle.simulation.proofs.scripts.laws.scripts_settle_to_their_ends.Goals as goal

pub returns : goal.returns
returns c = scripts_settle_to_their_ends c.settle_ends.ensures
