use Rattle.std.proofs.Common.{◌+◌, ◌-◌, ◌≤◌}
use Rattle.locked_office.specs.Calls.{Stays}
use Rattle.socket_pump.proofs.Hearing.{HeardSoFar}
use Rattle.socket_pump.proofs.heard.hear.Given as goal

abbrev pub invariant-loop-taken : goal.invariant-loop-taken
invariant-loop-taken g l = record {
  stays : Stays l.desk l.fn.pass l.pass;
  few : l.taken + l.refused ≤ 32;
  heard : HeardSoFar g.W.Wire.tells l.fn.pass.tag l.desk.key l.fn.pass (g.W.Wire.account l.fn.wire) l.fn.senders l.taken l.refused (g.W.Wire.account l.wire) l.pass l.senders;
}

abbrev pub decreases-loop-taken : goal.decreases-loop-taken
decreases-loop-taken g l = 32 - (l.taken + l.refused)
