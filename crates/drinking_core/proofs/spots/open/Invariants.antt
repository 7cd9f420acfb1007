use Rattle.std.proofs.Common.{◌≡◌, ◌<◌, ℕ, length}
use Rattle.drinking_core.specs.refinement.Masks.{spot_in, record_at}
use Rattle.drinking_core.proofs.spots.open.Given as goal

abbrev pub invariant-loop-k : goal.invariant-loop-k
invariant-loop-k l =
    (length l.spots.items ≡ l.count)
    × ((j : ℕ) → j < l.k → spot_in l.spots.items (record_at l.records j) ≡ j)
    × ((r : ℕ) → spot_in l.spots.items r < 255 → (spot_in l.spots.items r < l.k) × (record_at l.records (spot_in l.spots.items r) ≡ r))
