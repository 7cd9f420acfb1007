use Rattle.std.proofs.Common.{refl, drop}
use Rattle.socket_pump.specs.Last.{last_of}
use Rattle.office_stations.specs.declared.turning.Turning.TheVariants.{Adaptive}
use Rattle.office_stations.specs.Rounds.{Standing, of_office}
use Rattle.office_stations.specs.refinement.Standings.{standing}
use Rattle.office_stations.specs.refinement.RoundLaws.{none_made}
use Rattle.stored_runs.specs.Runs.{BeforeAll, IsToldBy}
use Rattle.stored_runs.proofs.Outcomes.{itself}
use Rattle.stored_runs.proofs.Running.{cut_short}
use Rattle.stored_runs.proofs.Ending.{of_standing}
use Rattle.stored_runs.proofs.run.start.Goals as goal

pub returns-in-Err-clause-goes : goal.returns-in-Err-clause-goes
returns-in-Err-clause-goes g c =
    let at : Standing = standing c.args.pass.now (g.S.Wire.account c.args.station.now.socket) (last_of c.args.station.now.pump.lasts) in
    let own = of_office c.args.me (drop c.args.from c.args.programs.now) in
    cut_short (IsToldBy g.S.Wire.account) g.S.Wire.tells c.args.desk.now.key c.args.turns 0 at at at own own c.in-Err.fault (none_made Adaptive g.S.Wire.tells 0 c.args.desk.now.key c.args.turns at own) (c.args.station.now.socket, refl) (BeforeAll refl (of_standing c.in-Err.fault c.in-Err.ensures.fault))

pub returns-in-Err-clause-grows : goal.returns-in-Err-clause-grows
returns-in-Err-clause-grows g c = itself c.args.pass.now.seen
