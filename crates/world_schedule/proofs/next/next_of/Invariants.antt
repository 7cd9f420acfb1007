use Rattle.std.proofs.Common.{◌≡◌, length, take, None}
use Rattle.std.specs.List.{range_with_len}
use Rattle.frame_world.specs.Standstill.{first_of}
use Rattle.world_schedule.specs.Resting.{RestIn}
use Rattle.world_schedule.specs.refinement.Marks.{step_at}
use Rattle.world_schedule.proofs.next.next_of.Given as goal

-- none so far has one
abbrev pub invariant-loop-a : goal.invariant-loop-a
invariant-loop-a l = record {
  none : first_of (step_at l.sought l.world) (take l.a (range_with_len 0 (length l.world.plan.offices))) ≡ None;
  rest : RestIn l.world l.resting;
}
