use Rattle.std.proofs.Common.{inl}
use Rattle.serial_command.proofs.answer.answer.Goals as goal

pub returns-in-Ok-clause-done : goal.returns-in-Ok-clause-done
returns-in-Ok-clause-done g c = λ zero. inl (c.in-Ok.request, c.in-Ok.ensures.request, c.perform.ensures.done zero)
