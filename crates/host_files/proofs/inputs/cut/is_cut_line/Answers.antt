use Rattle.std.proofs.Common.{rules}
use Rattle.host_files.proofs.inputs.cut.is_cut_line.Goals as goal

pub returns-else-eq : goal.returns-else-eq
returns-else-eq c = search rules
