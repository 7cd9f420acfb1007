use Rattle.std.proofs.Common.{rules}
use Rattle.session_language.proofs.read.read_line.Goals as goal

pub returns-in-Err-Refused : goal.returns-in-Err-Refused
returns-in-Err-Refused c = search rules
