use Rattle.simulation.proofs.scripts_lemmas.ScriptLines.{scripts_read_back}
use Rattle.simulation.proofs.scripts.laws.scripts_read_back.Goals as goal

pub returns : goal.returns
returns c = scripts_read_back
