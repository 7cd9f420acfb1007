use Rattle.std.proofs.Common.{refl, drop, subst, sym}
use Rattle.socket_pump.specs.Last.{last_of}
use Rattle.stored_runs.specs.durable.Letting.{StoreHas}
use Rattle.office_stations.specs.declared.turning.Turning.TheVariants.{Adaptive}
use Rattle.office_stations.specs.Rounds.{Standing, of_office}
use Rattle.office_stations.specs.refinement.Standings.{standing}
use Rattle.office_stations.specs.refinement.RoundLaws.{none_made}
use Rattle.stored_runs.specs.Runs.{BeforeAll, IsToldBy}
use Rattle.stored_runs.proofs.Outcomes.{itself}
use Rattle.stored_runs.proofs.Running.{cut_short}
use Rattle.stored_runs.proofs.Begun.{begun, went_on}
use Rattle.stored_runs.proofs.run.go_on.Goals as goal
use Rattle.stored_runs.proofs.run.go_on.Goals.{then-has_bytes-eq0+in-Ok, else-has_bytes-eq0}

pub returns-in-Err-clause-goes : goal.returns-in-Err-clause-goes
returns-in-Err-clause-goes g c =
    let at : Standing = standing c.args.pass.now (g.S.Wire.account c.args.station.now.socket) (last_of c.args.station.now.pump.lasts) in
    let own = of_office c.args.me (drop c.args.from c.args.programs.now) in
    cut_short (IsToldBy g.S.Wire.account) g.S.Wire.tells c.args.desk.now.key c.args.turns 0 at at at own own c.in-Err.fault (none_made Adaptive g.S.Wire.tells 0 c.args.desk.now.key c.args.turns at own) (c.args.station.now.socket, refl) (BeforeAll refl c.in-Err.ensures.cause)

pub take_turns-requires-clause-has : goal.take_turns-requires-clause-has
take_turns-requires-clause-has g c =
    elim c.if-has_bytes-eq0.branch [
      | then-has_bytes-eq0+in-Ok w ↦ subst (λ s. StoreHas (g.T.Store.stood s) c.args.desk.now.key c.args.pass.now.seen c.args.books.now.stood) (sym w.store-is)
          (begun (g.T.Store.stood c.args.store.now) (g.T.Store.stood w.begin.new.store) c.args.plan.now c.args.me c.args.desk.now.key c.args.pass.now.seen c.args.books.now.stood c.args.has_bytes c.requires.is w.if-has_bytes-eq0.true
          (c.requires.none w.if-has_bytes-eq0.true) c.requires.text w.in-Ok.ensures.stands)
      | else-has_bytes-eq0 w ↦ subst (λ s. StoreHas (g.T.Store.stood s) c.args.desk.now.key c.args.pass.now.seen c.args.books.now.stood) (sym w.store-is)
          (went_on (g.T.Store.stood c.args.store.now) c.args.plan.now c.args.me c.args.desk.now.key c.args.pass.now.seen c.args.books.now.stood c.args.has_bytes c.requires.is w.if-has_bytes-eq0.false c.requires.all c.requires.text)
    ]

pub returns-in-Err-clause-grows : goal.returns-in-Err-clause-grows
returns-in-Err-clause-grows g c = itself c.args.pass.now.seen
