use Rattle.std.proofs.Common.{◌≡◌, ◌++◌, take, drop}
use Rattle.std.specs.Prelude.{map}
use Rattle.dining_core.specs.refinement.Tables.{used_shared}
use Rattle.dining_core.proofs.places.use_all.Given as goal

abbrev pub invariant-loop-place : goal.invariant-loop-place
invariant-loop-place l = l.place-items ≡ map used_shared (take l.place-index l.initial.place-items) ++ drop l.place-index l.initial.place-items
