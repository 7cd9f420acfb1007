use Rattle.std.proofs.Common.{◌≡◌, ◌<◌, ℕ, take}
use Rattle.dining_core.specs.masks.Sets.{is_in16}
use Rattle.bottle_values.specs.Lists.{is_among}
use Rattle.dining_core.proofs.masked_table.near_in.Given as goal

abbrev pub invariant-loop-v : goal.invariant-loop-v
invariant-loop-v l = (i : ℕ) → i < 16 → is_in16 l.mask i ≡ is_among (take l.v-index l.neighbours) i
