use Rattle.session_programs.proofs.program.Program.copy.Goals as goal

pub invariant_of-result : goal.invariant_of-result
invariant_of-result c = rw (c.in_ok-said.ensures, c.in_ok-code.ensures) c.self.invariant
