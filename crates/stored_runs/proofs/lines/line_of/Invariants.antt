use Rattle.std.proofs.Common.{◌+◌, ◌<◌, ◌^◌, length}
use Rattle.stored_runs.proofs.lines.line_of.Given as goal

abbrev pub invariant-loop : goal.invariant-loop
invariant-loop l = l.left.number + length l.left.rest.now < 2 ^ 64
