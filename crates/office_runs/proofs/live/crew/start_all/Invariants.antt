use Rattle.std.proofs.Common.{◌≡◌, ◌+◌, ◌≤◌, ◌++◌, length, map, vec_capacity}
use Rattle.std.specs.Vec.Iter.{into_iter_items, into_iter_len}
use Rattle.office_runs.specs.live.refinement.Ends.{with_programs}
use Rattle.office_runs.proofs.live.crew.start_all.Given as goal

-- those that were started, and those that are left; and there is room for them
abbrev pub invariant-loop-crew : goal.invariant-loop-crew
invariant-loop-crew g l = record {
  all : l.running.items ++ map (with_programs l.programs) (into_iter_items l.crew-iterator) ≡ map (with_programs l.fn.programs) l.fn.crews.items;
  size : into_iter_len l.crew-iterator ≡ length (into_iter_items l.crew-iterator);
  room : length l.running.items + length (into_iter_items l.crew-iterator) ≤ vec_capacity l.running;
}
