use Rattle.std.proofs.Common.{◌≡◌, ℕ, ◌<◌, get_or}
use Rattle.office_map.proofs.ring_search.place_of.Given as goal

abbrev pub invariant-loop-place : goal.invariant-loop-place
invariant-loop-place l = (k d : ℕ) → k < l.place → get_or l.path k d ≡ l.office → ⊥
