use Rattle.std.proofs.Common.{◌≡◌, ◌*◌, ◌≤◌}
use Rattle.locked_office.specs.Calls.{Stays}
use Rattle.socket_pump.specs.Last.{last_of}
use Rattle.socket_pump.proofs.Speaking.{SpokeBelow}
use Rattle.socket_pump.proofs.pump.Pump.tell.Given as goal

abbrev pub invariant-loop-k : goal.invariant-loop-k
invariant-loop-k g l = record {
  plan : l.self-inside.plan ≡ l.initial.self-inside.plan;
  me : l.self-inside.me ≡ l.initial.self-inside.me;
  stays : Stays l.desk l.fn.pass l.pass;
  few : l.sent ≤ 18 * l.k;
  below : SpokeBelow l.backoff g.W.Wire.tells l.fn.pass.tag l.desk.key (last_of l.fn.self.lasts) (last_of l.self-inside.last) l.now l.fn.pass (g.W.Wire.account l.fn.wire) l.fn.senders l.sent (g.W.Wire.account l.wire) l.pass l.senders l.k;
}
