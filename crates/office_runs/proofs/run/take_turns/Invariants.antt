use Rattle.std.proofs.Common.{◌≡◌, ◌≤◌, drop}
use Rattle.locked_office.specs.Calls.{Stays}
use Rattle.socket_pump.specs.Last.{last_of}
use Rattle.office_stations.specs.declared.turning.Turning.TheVariants.{Plain}
use Rattle.office_stations.specs.Rounds.{of_office}
use Rattle.office_stations.specs.refinement.Standings.{standing}
use Rattle.office_stations.specs.refinement.RoundLaws.{Made}
use Rattle.office_runs.proofs.run.take_turns.Given as goal

-- what was done so far
abbrev pub invariant-loop : goal.invariant-loop
invariant-loop g l = record {
  stays : Stays l.desk l.fn.pass l.pass;
  key : l.desk.key ≡ l.station.pump.key;
  few : l.count ≤ l.turns;
  made : Made Plain g.S.Wire.tells l.fn.pass.tag l.desk.key l.turns l.count (standing l.fn.pass (g.S.Wire.account l.fn.station.socket) (last_of l.fn.station.pump.lasts)) (standing l.pass (g.S.Wire.account l.station.socket) (last_of l.station.pump.lasts))
      (of_office l.me l.programs) (of_office l.me (drop l.next l.programs));
}
