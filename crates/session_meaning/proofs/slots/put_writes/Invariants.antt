use Rattle.std.proofs.Common.{◌≡◌, ◌≤◌, ◌++◌, length, map, drop}
use Rattle.std.specs.Vec.{vec_len, vec_capacity}
use Rattle.session_meaning.specs.Meaning.{writes_of}
use Rattle.session_meaning.specs.refinement.CopiedSlots.{slot_of}
use Rattle.session_meaning.proofs.slots.put_writes.Given as goal

-- the writes so far, and those of the slots that are left, are all of them, and there is room for these
abbrev pub invariant-loop-slot : goal.invariant-loop-slot
invariant-loop-slot l = record {
  whole : l.writes.items ++ writes_of (map slot_of (drop l.slot-index l.slots)) ≡ writes_of (map slot_of l.slots);
  few : vec_len l.writes ≤ l.slot-index;
  room : length l.slots ≤ vec_capacity l.writes;
}
