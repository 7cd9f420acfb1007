use Rattle.std.proofs.Common.{◌≡◌, refl, ap, ◌∙◌}
use Rattle.std.specs.Result.{result_err}
use Rattle.locked_office.specs.Calls.{DeskPass}
use Rattle.socket_pump.specs.Last.{last_of}
use Rattle.office_stations.specs.Sessions.{count_of}
use Rattle.office_stations.specs.refinement.Standings.{standing}
use Rattle.office_runs.proofs.Telling.{tells_run, tells_runs}
use Rattle.office_runs.proofs.run.run_office.Goals as goal

pub returns-clause-tells : goal.returns-clause-tells
returns-clause-tells g c =
    let it = c.in_ok-ran.ensures in
    tells_runs c.args.form c.args.plan.now c.args.me c.in_ok-desk.desk.key c.take_turns.new.pass c.told.new.pass c.count_of-2.result (count_of c.args.programs.now c.args.me) c.args.journals c.in_ok-ran.ran c.in_ok-desk.ensures.key c.count_of-2.ensures it.looked it.left it.text it.journals

pub returns-clause-ran : goal.returns-clause-ran
returns-clause-ran g c =
    let it = c.in_ok-ran.ensures in
    let fresh = c.in-Some.ensures in
    let a = standing c.in-Some.pass (g.B.Socket.Wire.account c.in_ok-station.station.socket) (last_of c.in_ok-station.station.pump.lasts) in
    let b = standing c.take_turns.new.pass (g.B.Socket.Wire.account c.take_turns.new.station.socket) (last_of c.take_turns.new.station.pump.lasts) in
    tells_run (λ a. (s : g.row.B-Socket.Denot) × (g.B.Socket.Wire.account s ≡ a)) c.args.form g.B.Socket.Wire.tells c.args.plan.now c.args.me c.args.programs.now c.args.turns c.args.journals c.in_ok-ran.ran c.in_ok-desk.desk.key a b c.told.new.pass c.count_of-2.result (result_err c.take_turns.result) c.in_ok-desk.ensures.key c.count_of-2.ensures
    (ap (λ (d : DeskPass). d.tag) fresh, ap (λ (d : DeskPass). d.seen) fresh, ap (λ (d : DeskPass). d.mine) fresh, c.in_ok-station.ensures.last) c.take_turns.ensures.goes (c.take_turns.new.station.socket, refl) it.looked (it.fault ∙ c.err-fault.ensures.value) it.text it.left it.journals
