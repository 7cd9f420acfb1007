use Rattle.std.proofs.Common.{rules}
use Rattle.session_programs.proofs.text.write_number.Goals as goal

pub returns : goal.returns
returns c = search rules
