use Rattle.simulation.proofs.scripts_lemmas.ScriptLines.{lines_read_back}
use Rattle.simulation.proofs.scripts.laws.lines_read_back.Goals as goal

pub returns : goal.returns
returns c = lines_read_back
