use Rattle.std.proofs.Common.{◌≡◌, ◌-◌, [], length, drop}
use Rattle.day_audits.specs.left.refinement.Walks.{left_after}
use Rattle.day_audits.proofs.left.left.sessions_left.Given as goal

abbrev pub invariant-loop-entry : goal.invariant-loop-entry
invariant-loop-entry l = left_after l.left.items (drop l.place l.journal.entries) ≡ left_after [] l.journal.entries

abbrev pub decreases-loop-entry : goal.decreases-loop-entry
decreases-loop-entry l = length l.journal.entries - l.place
