use Rattle.std.proofs.Common.{sym}
use Rattle.serial_command.proofs.answer.perform.Goals as goal

pub returns-in-Serial-clause-done : goal.returns-in-Serial-clause-done
returns-in-Serial-clause-done g c = rw (c.in-Serial.is, sym c.of.ensures) c.without_files.ensures.done
