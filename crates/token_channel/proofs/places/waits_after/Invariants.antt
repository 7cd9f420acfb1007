use Rattle.std.proofs.Common.{◌≡◌, drop}
use Rattle.token_channel.specs.Places.{waits}
use Rattle.token_channel.proofs.places.waits_after.Given as goal

-- no message before this one carries it
abbrev pub invariant-loop-i : goal.invariant-loop-i
invariant-loop-i l = waits l.thing (drop l.known l.messages) ≡ waits l.thing (drop l.i l.messages)
