use Rattle.std.proofs.Common.{take, refl, subst, sym, arith}
use Rattle.std.proofs.KnownBytes.{Appends-nil}
use Rattle.socket_pump.specs.Last.{last_of}
use Rattle.stored_runs.specs.durable.Letting.{StoreHas}
use Rattle.office_stations.specs.Rounds.{Standing}
use Rattle.office_stations.specs.refinement.Standings.{standing}
use Rattle.session_streams.specs.requests.refinement.{taking_of}
use Rattle.stored_runs.specs.Runs.{HasStanding, IsToldBy}
use Rattle.stored_runs.proofs.Outcomes.{itself}
use Rattle.stored_runs.proofs.Growing.{no_datagram}
use Rattle.stored_runs.proofs.Begun.{begun, standing_first, standing_so, went_on}
use Rattle.serving.specs.declared.fault.ServeFault.TheVariants.{Run}
use Rattle.serving.proofs.Hearing.{none_heard}
use Rattle.serving.proofs.Rounding.{begins_first, none_done, went_before}
use Rattle.serving.proofs.service.go_on.Goals as goal
use Rattle.serving.proofs.service.go_on.Goals.{then-has_bytes-eq0+in-Ok, else-has_bytes-eq0}

pub returns-in-Err-clause-has : goal.returns-in-Err-clause-has
returns-in-Err-clause-has g c =
    subst (λ s. HasStanding s c.args.desk.now.key c.args.pass.now.seen c.args.books.now.stood) (sym c.in-Err.ensures.keeps)
    (standing_first (g.T.Store.stood c.args.store.now.store) c.args.plan.now c.args.me c.args.desk.now.key c.args.pass.now.seen c.args.books.now.stood c.args.has_bytes c.requires.is c.requires.all c.requires.text)

pub returns-in-Err-clause-lets_out : goal.returns-in-Err-clause-lets_out
returns-in-Err-clause-lets_out g c = no_datagram g.S.Wire.tells c.args.pass.now.tag (g.S.Wire.account c.args.station.now.socket) c.args.pass.now.seen c.args.books.now.stood

pub returns-in-Err-clause-went : goal.returns-in-Err-clause-went
returns-in-Err-clause-went g c =
    let k = c.args.desk.now.key in
    let at : Standing = standing c.args.pass.now (g.S.Wire.account c.args.station.now.socket) (last_of c.args.station.now.pump.lasts) in
    let seen = c.args.pass.now.seen in
    let stood = c.args.books.now.stood in
    let input = g.I.Read.remaining c.args.incoming.now.input in
    went_before (IsToldBy g.S.Wire.account) c.args.form g.S.Wire.tells k input input (taking_of c.args.incoming.now.intake) c.args.incoming.now.has_ended at at _ _ _ (g.O.Write.contents c.args.out.now) (g.O.Write.contents c.args.out.now) (none_done c.args.form g.S.Wire.tells k at)
    (none_heard k.0 k.1 input (taking_of c.args.incoming.now.intake) c.args.incoming.now.has_ended c.requires.nothing c.requires.going) (Appends-nil (g.O.Write.contents c.args.out.now)) (c.args.station.now.socket, refl) (Run c.in-Err.fault) (take stood seen) (begins_first stood seen seen (omega (arith, c.requires.all)) (itself seen))

pub rounds-requires-clause-has : goal.rounds-requires-clause-has
rounds-requires-clause-has g c =
    elim c.if-has_bytes-eq0.branch [
      | then-has_bytes-eq0+in-Ok w ↦ subst (λ s. StoreHas (g.T.Store.stood s.store) c.args.desk.now.key c.args.pass.now.seen c.args.books.now.stood) (sym w.store-is)
          (begun (g.T.Store.stood c.args.store.now.store) (g.T.Store.stood w.begin.new.store.store) c.args.plan.now c.args.me c.args.desk.now.key c.args.pass.now.seen c.args.books.now.stood c.args.has_bytes c.requires.is w.if-has_bytes-eq0.true
          (c.requires.none w.if-has_bytes-eq0.true) c.requires.text w.in-Ok.ensures.stands)
      | else-has_bytes-eq0 w ↦ subst (λ s. StoreHas (g.T.Store.stood s.store) c.args.desk.now.key c.args.pass.now.seen c.args.books.now.stood) (sym w.store-is)
          (went_on (g.T.Store.stood c.args.store.now.store) c.args.plan.now c.args.me c.args.desk.now.key c.args.pass.now.seen c.args.books.now.stood c.args.has_bytes c.requires.is w.if-has_bytes-eq0.false c.requires.all c.requires.text)
    ]

pub returns-clause-has : goal.returns-clause-has
returns-clause-has g c = standing_so (g.T.Store.stood c.rounds.new.store.store) c.args.desk.now.key c.rounds.new.pass.seen c.rounds.new.books.stood c.rounds.ensures.has
