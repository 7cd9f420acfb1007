use Rattle.simulation.proofs.scripts_lemmas.Advancing.{offices_advance_by_their_next_rules}
use Rattle.simulation.proofs.scripts.laws.offices_advance_by_their_next_rules.Goals as goal

pub returns : goal.returns
returns c = offices_advance_by_their_next_rules
