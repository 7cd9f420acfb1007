use Rattle.std.proofs.Common.{ℕ, ◌<◌, ◌≤◌, length, get_or}
use Rattle.office_map.proofs.ring_search.place_of_least.Given as goal

abbrev pub invariant-loop-place : goal.invariant-loop-place
invariant-loop-place l = (l.least < length l.circle) × ((k d : ℕ) → k < l.place → get_or l.circle l.least 0 ≤ get_or l.circle k d)
