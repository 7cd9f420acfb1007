use Rattle.std.proofs.Common.{◌≡◌, ◌≤◌, length, take, vec_len}
use Rattle.std.specs.Vec.{vec_capacity}
use Rattle.frame_world.specs.Worlds.{run_of, replies_of}
use Rattle.world_schedule.proofs.world.World.run_all.Given as goal

abbrev pub invariant-loop-event : goal.invariant-loop-event
invariant-loop-event l = record {
  counted : vec_len l.replies ≡ l.event-index;
  room : length l.events ≤ vec_capacity l.replies;
  world : run_of l.fn.self (take l.event-index l.events) ≡ l.self;
  told : l.replies.items ≡ replies_of l.fn.self (take l.event-index l.events);
}
