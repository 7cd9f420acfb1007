use Rattle.std.proofs.Common.{ℕ, ◌<◌, ◌+◌}
use Rattle.std.specs.List.{slice_index}
use Rattle.session_meaning.proofs.working_copies.SortedSlots.{ids}
use Rattle.session_meaning.proofs.slots.are_sorted.Given as goal

-- the slots before this one are in order
abbrev pub invariant-loop-i : goal.invariant-loop-i
invariant-loop-i l = (k : ℕ) → k + 1 < l.i → slice_index (ids l.slots) k < slice_index (ids l.slots) (k + 1)
