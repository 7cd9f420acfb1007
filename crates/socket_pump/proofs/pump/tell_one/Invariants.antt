use Rattle.std.proofs.Common.{◌+◌}
use Rattle.locked_office.specs.Calls.{Stays}
use Rattle.socket_pump.specs.Last.{last_of}
use Rattle.socket_pump.proofs.Speaking.{SpokeSoFar}
use Rattle.socket_pump.proofs.pump.tell_one.Given as goal

abbrev pub invariant-loop-number : goal.invariant-loop-number
invariant-loop-number g l = record {
  stays : Stays l.desk l.fn.pass l.pass;
  soFar : SpokeSoFar l.backoff g.W.Wire.tells l.fn.pass.tag l.desk.key (last_of l.fn.last) (last_of l.last) l.now l.fn.pass (g.W.Wire.account l.fn.wire) l.sent (g.W.Wire.account l.wire) l.pass l.v l.first (l.first + l.count) l.number;
}
