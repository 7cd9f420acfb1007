use Rattle.std.proofs.Common.{◌≡◌, take, None}
use Rattle.office_map.specs.PlanValue.{neighbours_of}
use Rattle.frame_world.specs.Standstill.{first_of, message_to}
use Rattle.world_schedule.proofs.next.message_from.Given as goal

-- none so far has a message to take
abbrev pub invariant-loop-to : goal.invariant-loop-to
invariant-loop-to l = first_of (message_to l.world l.from) (take l.to-index (neighbours_of l.world.plan l.from)) ≡ None
