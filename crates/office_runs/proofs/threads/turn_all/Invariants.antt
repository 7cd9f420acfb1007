use Rattle.std.proofs.Common.{◌≡◌, []}
use Rattle.locked_office.specs.Calls.{Stays}
use Rattle.socket_pump.specs.Last.{last_of}
use Rattle.office_stations.specs.declared.turning.Turning.TheVariants.{Adaptive}
use Rattle.office_runs.specs.Threads.{most_turns}
use Rattle.office_stations.specs.refinement.Standings.{standing}
use Rattle.office_stations.specs.refinement.RoundLaws.{Made}
use Rattle.office_runs.proofs.threads.turn_all.Given as goal

-- the turns that were made
abbrev pub invariant-loop : goal.invariant-loop
invariant-loop g l = record {
  stays : Stays l.desk l.fn.pass l.pass;
  key : l.desk.key ≡ l.station.pump.key;
  made : Made Adaptive g.S.Wire.tells 0 l.desk.key most_turns l.count (standing l.fn.pass (g.S.Wire.account l.fn.station.socket) (last_of l.fn.station.pump.lasts)) (standing l.pass (g.S.Wire.account l.station.socket) (last_of l.station.pump.lasts)) [] [];
}
