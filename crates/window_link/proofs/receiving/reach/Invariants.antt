use Rattle.std.proofs.Common.{◌≡◌, ◌+◌, ◌≤◌, length, max}
use Rattle.window_link.specs.Limits.{most_kept}
use Rattle.window_link.specs.refinement.Places.{filled}
use Rattle.window_link.proofs.receiving.reach.Given as goal

abbrev pub invariant-loop : goal.invariant-loop
invariant-loop l =
    (filled most_kept l.ahead.items ≡ filled most_kept l.initial.ahead.items) × (length l.ahead.items ≡ l.counter) × (length l.initial.ahead.items ≤ l.counter) × (l.counter ≤ max (length l.initial.ahead.items) (l.place + 1))
