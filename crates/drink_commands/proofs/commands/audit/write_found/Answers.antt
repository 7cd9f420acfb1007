use Rattle.drink_commands.proofs.commands.audit.write_found.Goals as goal

pub returns-in-Some-clause-written : goal.returns-in-Some-clause-written
returns-in-Some-clause-written g c = rw c.in-Some.is c.write_end.ensures.written
