use Rattle.socket_pump.proofs.Marking.{MarkedBelow}
use Rattle.socket_pump.proofs.last.Lasts.mark.Given as goal

abbrev pub invariant-loop-i : goal.invariant-loop-i
invariant-loop-i l = record { marked : MarkedBelow l.fn.self.slots l.self.slots l.v l.i }
