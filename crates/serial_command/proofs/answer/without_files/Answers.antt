use Rattle.serial_command.proofs.answer.without_files.Goals as goal

pub returns-in-None-clause-done : goal.returns-in-None-clause-done
returns-in-None-clause-done g c = λ zero. (c.in-None.is, c.report.ensures.done zero)
