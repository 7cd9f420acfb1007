use Rattle.office_map.proofs.RefusedLines.{refuses_a_line}
use Rattle.office_map.proofs.laws.refuses_a_line.Goals as goal

pub returns : goal.returns
returns c = refuses_a_line
