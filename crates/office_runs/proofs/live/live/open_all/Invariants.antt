use Rattle.std.proofs.Common.{◌≡◌, ◌+◌, length, map}
use Rattle.std.specs.List.{range_with_len}
use Rattle.office_runs.proofs.live.live.open_all.Given as goal

-- so many offices are opened, and the other sockets are left
abbrev pub invariant-loop-k : goal.invariant-loop-k
invariant-loop-k g l = record {
  left : length l.sockets.items + l.k ≡ length l.fn.plan.offices;
  keys : l.crews.items ≡ map (λ me. (l.fn.plan, me)) (range_with_len 0 l.k);
}
