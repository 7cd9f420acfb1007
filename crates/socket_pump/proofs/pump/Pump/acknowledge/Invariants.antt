use Rattle.std.proofs.Common.{◌≤◌}
use Rattle.locked_office.specs.Calls.{Stays}
use Rattle.socket_pump.proofs.Counting.{CountedSoFar}
use Rattle.socket_pump.proofs.pump.Pump.acknowledge.Given as goal

abbrev pub invariant-loop-k : goal.invariant-loop-k
invariant-loop-k g l = record {
  stays : Stays l.desk l.fn.pass l.pass;
  few : l.sent ≤ l.k;
  soFar : CountedSoFar g.W.Wire.tells l.fn.pass.tag l.desk.key l.senders l.fn.pass (g.W.Wire.account l.fn.wire) l.sent (g.W.Wire.account l.wire) l.pass l.k;
}
