use Rattle.std.proofs.Common.{◌+◌, ◌*◌, ◌-◌, ◌≤◌}
use Rattle.locked_office.specs.Calls.{Stays}
use Rattle.socket_pump.specs.Last.{last_of}
use Rattle.socket_pump.proofs.Handling.{HandledSoFar}
use Rattle.socket_pump.proofs.handled.handle_all.Given as goal

abbrev pub invariant-loop-taken : goal.invariant-loop-taken
invariant-loop-taken g l = record {
  stays : Stays l.desk l.fn.pass l.pass;
  few : l.taken + l.refused ≤ 32;
  ruled : l.followed ≤ 64 * (l.taken + l.refused);
  handled : HandledSoFar g.W.Wire.tells l.fn.pass.tag l.desk.key (last_of l.fn.last) l.fn.pass (g.W.Wire.account l.fn.wire) l.fn.senders l.taken l.refused l.followed (g.W.Wire.account l.wire) l.pass l.senders (last_of l.last);
}

abbrev pub decreases-loop-taken : goal.decreases-loop-taken
decreases-loop-taken g l = 32 - (l.taken + l.refused)
