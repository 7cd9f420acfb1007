use Rattle.std.proofs.Common.{◌≡◌, Some, map}
use Rattle.day_audits.proofs.audit.journals.full.Given as goal

abbrev pub invariant-loop-slot : goal.invariant-loop-slot
invariant-loop-slot l = map Some l.replays.items ≡ l.yielded
