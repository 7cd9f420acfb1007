use Rattle.std.proofs.Common.{◌≡◌, drop}
use Rattle.drinking_core.specs.refinement.Bars.{with_writes}
use Rattle.drinking_core.proofs.places.write_all.Given as goal

abbrev pub invariant-loop-r : goal.invariant-loop-r
invariant-loop-r l = with_writes (drop l.r-index l.writes) l.places.items ≡ with_writes l.writes l.initial.places.items
