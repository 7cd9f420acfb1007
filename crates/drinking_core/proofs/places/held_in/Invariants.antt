use Rattle.std.proofs.Common.{◌≡◌, ◌<◌, ℕ, is_some}
use Rattle.dining_core.specs.masks.Sets.{is_in128}
use Rattle.drinking_core.specs.refinement.Bars.{bottle_in}
use Rattle.drinking_core.specs.refinement.Masks.{record_at}
use Rattle.drinking_core.proofs.places.held_in.Given as goal

abbrev pub invariant-loop-k : goal.invariant-loop-k
invariant-loop-k l = (j : ℕ) → j < l.k → is_in128 l.mask j ≡ is_some (bottle_in l.places (record_at l.records j))
