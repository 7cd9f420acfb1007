use Rattle.std.proofs.Common.{◌≡◌, length, false}
use mathlib.Core.List.{IsPrefix}
use Rattle.site_core.specs.agendas.Agenda.{unfinished}
use Rattle.site_core.specs.Journals.{office_of}
use Rattle.locked_office.specs.Calls.{Stays, office_with}
use Rattle.socket_pump.specs.Last.{last_of}
use Rattle.stored_runs.specs.durable.Letting.{StoreHas, LetsOut}
use Rattle.office_stations.specs.Sessions.{finished_of}
use Rattle.office_stations.specs.refinement.Standings.{standing}
use Rattle.session_streams.specs.requests.refinement.{taking_of}
use Rattle.serving.proofs.Rounding.{So}
use Rattle.serving.proofs.service.rounds.Given as goal

-- what was done so far, all of which stands and is told
abbrev pub invariant-loop : goal.invariant-loop
invariant-loop g l = record {
  stays : Stays l.desk l.fn.pass l.pass;
  key : l.desk.key ≡ l.station.pump.key;
  so : So l.form g.S.Wire.tells l.desk.key (g.I.Read.remaining l.fn.incoming.input) (g.I.Read.remaining l.incoming.input) (taking_of l.incoming.intake) l.incoming.has_ended (standing l.fn.pass (g.S.Wire.account l.fn.station.socket) (last_of l.fn.station.pump.lasts))
      (standing l.pass (g.S.Wire.account l.station.socket) (last_of l.station.pump.lasts)) l.waiting.items (g.O.Write.contents l.fn.out) (g.O.Write.contents l.out);
  grows : IsPrefix l.fn.pass.seen l.pass.seen;
  usable : g.T.Store.failed l.store.store ≡ false;
  has : StoreHas (g.T.Store.stood l.store.store) l.desk.key l.pass.seen l.books.stood;
  all : l.books.stood ≡ length l.pass.seen;
  out : LetsOut g.S.Wire.tells l.fn.pass.tag (g.S.Wire.account l.fn.station.socket) (g.S.Wire.account l.station.socket) l.pass.seen l.books.stood;
  told : l.books.told ≡ length (finished_of (office_with l.desk.key l.pass.seen));
  left : l.books.left ≡ unfinished (office_of (office_with l.desk.key l.pass.seen)).agenda;
}
