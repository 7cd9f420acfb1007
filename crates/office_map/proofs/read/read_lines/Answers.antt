use Rattle.std.proofs.Common.{rules}
use Rattle.office_map.proofs.read.read_lines.Goals as goal

pub returns-in_err-read_line : goal.returns-in_err-read_line
returns-in_err-read_line c = search rules
