use Rattle.std.proofs.Common.{◌≡◌, ◌<◌, ℕ, length, false}
use Rattle.dining_core.specs.masks.Sets.{is_in128, size128}
use Rattle.dining_core.specs.refinement.Tables.{diner_of}
use Rattle.drinking_core.specs.Drinkers.{GiveBottle, may}
use Rattle.drinking_core.specs.refinement.Bars.{drinker_of}
use Rattle.drinking_core.specs.refinement.Masks.{record_at}
use Rattle.drinking_core.proofs.masked_bar.first_given_of.Given as goal

abbrev pub invariant-left : goal.invariant-left
invariant-left l = (k : ℕ) → k < length (drinker_of l.bar).records → k < 128 → is_in128 l.left k ≡ false → may (drinker_of l.bar) (GiveBottle (record_at (drinker_of l.bar).records k) (diner_of l.table).held) ≡ false

abbrev pub decreases-left : goal.decreases-left
decreases-left l = size128 l.left
