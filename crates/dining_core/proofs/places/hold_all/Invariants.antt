use Rattle.std.proofs.Common.{◌≡◌, drop}
use Rattle.std.specs.List.{list_all}
use Rattle.dining_core.specs.refinement.Tables.{holds}
use Rattle.dining_core.proofs.places.hold_all.Given as goal

abbrev pub invariant-loop-v : goal.invariant-loop-v
invariant-loop-v l = list_all (holds l.places) (drop l.v-index l.neighbours) ≡ list_all (holds l.places) l.neighbours
