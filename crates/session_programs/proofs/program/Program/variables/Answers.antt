use Rattle.session_programs.proofs.program.Program.variables.Goals as goal

pub returns : goal.returns
returns c = cc
