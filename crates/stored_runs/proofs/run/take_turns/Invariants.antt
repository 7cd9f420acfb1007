use Rattle.std.proofs.Common.{◌≡◌, ◌≤◌, length, drop, false}
use Rattle.std.specs.List.{flat_map}
use Rattle.std.specs.Io.KnownBytes.{Appends}
use mathlib.Core.List.{IsPrefix}
use Rattle.locked_office.specs.Calls.{Stays, office_with}
use Rattle.session_reports.specs.form.Forms.{outcome_as}
use Rattle.socket_pump.specs.Last.{last_of}
use Rattle.stored_runs.specs.durable.Letting.{StoreHas, LetsOut}
use Rattle.office_stations.specs.declared.turning.Turning.TheVariants.{Adaptive}
use Rattle.office_stations.specs.Rounds.{of_office}
use Rattle.office_stations.specs.Sessions.{finished_of}
use Rattle.office_stations.specs.refinement.Standings.{standing}
use Rattle.office_stations.specs.refinement.RoundLaws.{Made}
use Rattle.stored_runs.proofs.run.take_turns.Given as goal

-- what was done so far, all of which stands and is told
abbrev pub invariant-loop : goal.invariant-loop
invariant-loop g l = record {
  stays : Stays l.desk l.fn.pass l.pass;
  key : l.desk.key ≡ l.station.pump.key;
  few : l.count ≤ l.turns;
  made : Made Adaptive g.S.Wire.tells 0 l.desk.key l.turns l.count (standing l.fn.pass (g.S.Wire.account l.fn.station.socket) (last_of l.fn.station.pump.lasts)) (standing l.pass (g.S.Wire.account l.station.socket) (last_of l.station.pump.lasts))
      (of_office l.me (drop l.from l.programs)) (of_office l.me (drop l.next l.programs));
  grows : IsPrefix l.fn.pass.seen l.pass.seen;
  usable : g.T.Store.failed l.store ≡ false;
  has : StoreHas (g.T.Store.stood l.store) l.desk.key l.pass.seen l.books.stood;
  all : l.books.stood ≡ length l.pass.seen;
  out : LetsOut g.S.Wire.tells l.fn.pass.tag (g.S.Wire.account l.fn.station.socket) (g.S.Wire.account l.station.socket) l.pass.seen l.books.stood;
  told : l.books.told ≡ length (finished_of (office_with l.desk.key l.pass.seen));
  more : l.fn.books.told ≤ l.books.told;
  lines : Appends (g.O.Write.contents l.fn.out) (g.O.Write.contents l.out) (flat_map (outcome_as l.form l.plan) (drop l.fn.books.told (finished_of (office_with l.desk.key l.pass.seen))));
}
