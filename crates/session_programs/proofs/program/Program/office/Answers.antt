use Rattle.session_programs.proofs.program.Program.office.Goals as goal

pub returns : goal.returns
returns c = cc
