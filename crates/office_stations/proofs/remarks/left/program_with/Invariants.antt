use Rattle.std.proofs.Common.{◌≡◌, ◌-◌, length, drop}
use Rattle.office_stations.specs.remarks.Left.{program_with}
use Rattle.office_stations.proofs.remarks.left.program_with.Given as goal

abbrev pub invariant-loop-entry : goal.invariant-loop-entry
invariant-loop-entry l = program_with l.ticket (drop l.place l.journal.entries) ≡ program_with l.ticket l.journal.entries

abbrev pub decreases-loop-entry : goal.decreases-loop-entry
decreases-loop-entry l = length l.journal.entries - l.place
