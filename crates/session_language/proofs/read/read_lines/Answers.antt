use Rattle.std.proofs.Common.{rules}
use Rattle.session_language.proofs.read.read_lines.Goals as goal

pub returns : goal.returns
returns c = search rules

pub returns-in_err-read_line : goal.returns-in_err-read_line
returns-in_err-read_line c = search rules
