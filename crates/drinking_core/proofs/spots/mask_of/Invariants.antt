use Rattle.std.proofs.Common.{◌≡◌, ◌<◌, ℕ, take}
use Rattle.std.specs.Prelude.{◌==◌}
use Rattle.std.specs.List.{list_any}
use Rattle.dining_core.specs.masks.Sets.{is_in128}
use Rattle.drinking_core.specs.refinement.Masks.{spot_in}
use Rattle.drinking_core.proofs.spots.mask_of.Given as goal

abbrev pub invariant-loop-r : goal.invariant-loop-r
invariant-loop-r l = (k : ℕ) → k < 128 → is_in128 l.mask k ≡ list_any (λ r. spot_in l.spots r == k) (take l.r-index l.records)
