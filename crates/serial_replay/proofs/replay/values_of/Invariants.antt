use Rattle.std.proofs.Common.{◌≡◌, map, take, get_or}
use Rattle.serial_replay.proofs.replay.values_of.Given as goal
use Rattle.bottle_values.specs.Operations.{nought}

abbrev pub invariant-loop-id : goal.invariant-loop-id
invariant-loop-id l = l.needed.items ≡ map (λ r. get_or l.values r nought) (take l.id-index l.needs)
