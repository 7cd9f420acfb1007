use Rattle.std.proofs.Common.{◌≡◌, drop}
use Rattle.office_stations.specs.Rounds.{of_office}
use Rattle.stored_runs.proofs.submits.next_of.Given as goal

-- none of those before it is the office's
abbrev pub invariant-loop-i : goal.invariant-loop-i
invariant-loop-i l = of_office l.me (drop l.from l.programs) ≡ of_office l.me (drop l.i l.programs)
