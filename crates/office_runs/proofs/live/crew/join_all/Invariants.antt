use Rattle.std.proofs.Common.{◌≡◌, ◌+◌, ◌≤◌, ◌++◌, length, map, vec_capacity}
use Rattle.std.specs.Vec.Iter.{into_iter_items, into_iter_len}
use Rattle.office_runs.specs.live.refinement.Ends.{duty_of}
use Rattle.office_runs.proofs.live.crew.join_all.Given as goal

-- those that have ended, and those that are left; and there is room for them
abbrev pub invariant-loop-one : goal.invariant-loop-one
invariant-loop-one g l = record {
  all : map duty_of l.ended.items ++ into_iter_items l.one-iterator ≡ l.fn.running.items;
  size : into_iter_len l.one-iterator ≡ length (into_iter_items l.one-iterator);
  room : length l.ended.items + length (into_iter_items l.one-iterator) ≤ vec_capacity l.ended;
}
