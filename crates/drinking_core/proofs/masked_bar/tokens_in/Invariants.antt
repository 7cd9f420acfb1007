use Rattle.std.proofs.Common.{◌≡◌, ◌<◌, ℕ}
use Rattle.dining_core.specs.masks.Sets.{is_in128}
use Rattle.drinking_core.specs.refinement.Bars.{drinker_of}
use Rattle.drinking_core.specs.refinement.Masks.{record_at}
use Rattle.drinking_core.proofs.masked_bar.tokens_in.Given as goal

abbrev pub invariant-loop-k : goal.invariant-loop-k
invariant-loop-k l = (j : ℕ) → j < l.k → is_in128 l.mask j ≡ (drinker_of l.bar).token (record_at l.records j)
