use Rattle.std.proofs.Common.{◌≡◌, map}
use Rattle.std.specs.List.{range_with_len}
use Rattle.drinking_core.specs.refinement.Bars.{start_place}
use Rattle.drinking_core.proofs.places.open.Given as goal

abbrev pub invariant-loop-r : goal.invariant-loop-r
invariant-loop-r l = l.places.items ≡ map (start_place l.plan l.id) (range_with_len 0 l.r)
