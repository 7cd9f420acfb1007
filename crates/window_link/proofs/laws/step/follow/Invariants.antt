use Rattle.std.proofs.Common.{◌≡◌, ◌-◌}
use Rattle.window_link.specs.Windows.{next_kept}
use Rattle.window_link.specs.Limits.{most_kept}
use Rattle.window_link.specs.refinement.TwoLinksStep.{followed, with_receiving}
use Rattle.window_link.proofs.laws.step.follow.Given as goal

-- so many places are left to look at
abbrev pub invariant-loop : goal.invariant-loop
invariant-loop l =
    with_receiving l.initial.link (followed (next_kept l.initial.link.receiving) most_kept l.initial.link.receiving)
    ≡ with_receiving l.link (followed (next_kept l.link.receiving) (most_kept - l.counter) l.link.receiving)
