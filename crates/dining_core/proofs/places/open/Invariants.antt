use Rattle.std.proofs.Common.{◌≡◌, map}
use Rattle.std.specs.List.{range_with_len}
use Rattle.dining_core.specs.refinement.Tables.{start_place}
use Rattle.dining_core.proofs.places.open.Given as goal

abbrev pub invariant-loop-v : goal.invariant-loop-v
invariant-loop-v l = l.places.items ≡ map (start_place l.plan l.id) (range_with_len 0 l.v)
