use Rattle.std.proofs.Common.{drop}
use Rattle.locked_office.specs.Calls.{Stays}
use Rattle.office_stations.specs.Rounds.{of_office}
use Rattle.office_runs.proofs.Ends.{Filled}
use Rattle.office_runs.proofs.threads.submit_all.Given as goal

-- the sessions that were given
abbrev pub invariant-loop : goal.invariant-loop
invariant-loop g l = record {
  stays : Stays l.desk l.fn.pass l.pass;
  filled : Filled l.desk.key l.fn.pass l.pass (of_office l.me l.programs) (of_office l.me (drop l.next l.programs));
}
