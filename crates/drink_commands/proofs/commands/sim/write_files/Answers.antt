use Rattle.drink_commands.proofs.commands.sim.write_files.Goals as goal

pub returns-clause-files : goal.returns-clause-files
returns-clause-files g c = record { between = g.T.Targets.written c.write_world.new.targets; journals = c.in_ok-write_world.ensures.written; day = c.in_ok-write_end.ensures.written }
