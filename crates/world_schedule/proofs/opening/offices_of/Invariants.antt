use Rattle.std.proofs.Common.{◌≡◌, map}
use Rattle.std.specs.List.{range_with_len}
use Rattle.frame_world.specs.Worlds.{silent}
use Rattle.world_schedule.proofs.opening.offices_of.Given as goal

abbrev pub invariant-loop-a : goal.invariant-loop-a
invariant-loop-a l = l.offices.items ≡ map (silent l.plan) (range_with_len 0 l.a)
