use Rattle.std.proofs.Common.{◌≡◌, map, take}
use Rattle.session_meaning.specs.Meaning as meaning
use Rattle.session_meaning.specs.refinement.CopiedSlots.{slot_of}
use Rattle.session_meaning.proofs.slots.slots_in.Given as goal

abbrev pub invariant-loop-id : goal.invariant-loop-id
invariant-loop-id l = map slot_of l.slots.items ≡ map meaning.slot_of (take l.id-index l.reads)
