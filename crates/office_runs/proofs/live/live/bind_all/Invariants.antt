use Rattle.std.proofs.Common.{◌≡◌, length}
use Rattle.office_runs.proofs.live.live.bind_all.Given as goal

abbrev pub invariant-loop-i : goal.invariant-loop-i
invariant-loop-i g l = length l.sockets.items ≡ l.i
