use Rattle.std.proofs.Common.{take, refl, arith}
use Rattle.std.specs.Result.{result_err}
use Rattle.std.specs.Io.KnownBytes.{Appends}
use Rattle.std.proofs.KnownBytes.{Appends-nil}
use Rattle.socket_pump.specs.Last.{last_of}
use Rattle.office_stations.specs.Rounds.{Standing}
use Rattle.office_stations.specs.refinement.Standings.{standing}
use Rattle.session_streams.specs.requests.refinement.{taking_of}
use Rattle.stored_runs.specs.Runs.{IsToldBy}
use Rattle.stored_runs.proofs.Outcomes.{itself}
use Rattle.stored_runs.proofs.Growing.{no_datagram}
use Rattle.stored_runs.proofs.Begun.{standing_first}
use Rattle.serving.specs.declared.fault.ServeFault.TheVariants.{Run}
use Rattle.serving.proofs.Hearing.{none_heard}
use Rattle.serving.proofs.Rounding.{begins_first, none_done, unless, went_before}
use Rattle.serving.proofs.Untold.{unknown, untold_fault}
use Rattle.serving.proofs.service.start.Goals as goal

pub returns-in-Err-clause-has : goal.returns-in-Err-clause-has
returns-in-Err-clause-has g c = standing_first (g.T.Store.stood c.args.store.now.store) c.args.plan.now c.args.me c.args.desk.now.key c.args.pass.now.seen c.args.books.now.stood c.args.has_bytes c.requires.is c.requires.all c.requires.text

pub returns-in-Err-clause-lets_out : goal.returns-in-Err-clause-lets_out
returns-in-Err-clause-lets_out g c = no_datagram g.S.Wire.tells c.args.pass.now.tag (g.S.Wire.account c.args.station.now.socket) c.args.pass.now.seen c.args.books.now.stood

pub returns-in-Err-clause-fault : goal.returns-in-Err-clause-fault
returns-in-Err-clause-fault g c = untold_fault (g.T.Store.failed c.args.store.now.store) c.in-Err.fault c.in-Err.ensures.fault

pub returns-in-Err-clause-went : goal.returns-in-Err-clause-went
returns-in-Err-clause-went g c =
    let k = c.args.desk.now.key in
    let at : Standing = standing c.args.pass.now (g.S.Wire.account c.args.station.now.socket) (last_of c.args.station.now.pump.lasts) in
    let seen = c.args.pass.now.seen in
    let stood = c.args.books.now.stood in
    let input = g.I.Read.remaining c.args.incoming.now.input in
    let new = g.O.Write.contents c.write_whole.new.out in
    record {
      mid = new;
      first = unknown c.in-Err.fault (Appends (g.O.Write.contents c.args.out.now) new c.args.ready.now) c.in-Err.ensures.fault;
      went = went_before (IsToldBy g.S.Wire.account) c.args.form g.S.Wire.tells k input input (taking_of c.args.incoming.now.intake) c.args.incoming.now.has_ended at at _ _ _ new new (none_done c.args.form g.S.Wire.tells k at)
          (none_heard k.0 k.1 input (taking_of c.args.incoming.now.intake) c.args.incoming.now.has_ended c.requires.nothing c.requires.going) (Appends-nil new) (c.args.station.now.socket, refl) (Run c.in-Err.fault) (take stood seen) (begins_first stood seen seen (omega (arith, c.requires.all)) (itself seen));
    }

pub returns-clause-went : goal.returns-clause-went
returns-clause-went g c = record {
  mid = g.O.Write.contents c.write_whole.new.out;
  first = unless (result_err c.go_on.result) (Appends (g.O.Write.contents c.args.out.now) (g.O.Write.contents c.write_whole.new.out) c.args.ready.now) c.in-Ok.ensures.written;
  went = c.go_on.ensures.went;
}
