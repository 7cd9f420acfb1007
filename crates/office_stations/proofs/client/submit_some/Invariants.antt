use Rattle.std.proofs.Common.{◌-◌, length, drop}
use Rattle.locked_office.specs.Calls.{Stays}
use Rattle.office_stations.specs.Rounds.{of_office}
use Rattle.office_stations.proofs.Rounds.{Given}
use Rattle.office_stations.proofs.client.submit_some.Given as goal

-- what was submitted so far
abbrev pub invariant-loop-next : goal.invariant-loop-next
invariant-loop-next g l = record {
  stays : Stays l.desk l.fn.pass l.pass;
  given : Given l.fn.pass.tag l.desk.key l.fn.pass l.pass (of_office l.me (drop l.fn.next l.programs)) (of_office l.me (drop l.next l.programs));
}

abbrev pub decreases-loop-next : goal.decreases-loop-next
decreases-loop-next g l = length l.programs - l.next
