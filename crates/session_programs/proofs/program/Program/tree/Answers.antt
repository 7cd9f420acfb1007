use Rattle.std.proofs.Common.{rules}
use Rattle.session_programs.proofs.program.Program.tree.Goals as goal

pub returns-clause-body : goal.returns-clause-body
returns-clause-body c = cc

pub returns-clause-well_formed : goal.returns-clause-well_formed
returns-clause-well_formed c = search rules
