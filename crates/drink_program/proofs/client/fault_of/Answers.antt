use Rattle.std.proofs.Common.{rules}
use Rattle.drink_program.proofs.Nothing.{keeps}
use Rattle.drink_program.proofs.client.fault_of.Goals as goal

pub returns-in-Ok : goal.returns-in-Ok
returns-in-Ok g c = keeps _ _ c.in-Ok.field-0 c.read.new.buf (search rules) c.in-Ok.ensures.bytes.0
