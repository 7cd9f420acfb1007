use Rattle.std.proofs.Common.{◌≡◌, map}
use Rattle.std.specs.List.{range_with_len}
use Rattle.site_core.specs.neighbours.refinement.Slots.{slot_at_start}
use Rattle.site_core.proofs.neighbours.channels.slots_at_start.Given as goal

abbrev pub invariant-loop-v : goal.invariant-loop-v
invariant-loop-v l = l.slots.items ≡ map (slot_at_start l.plan l.me) (range_with_len 0 l.v)
