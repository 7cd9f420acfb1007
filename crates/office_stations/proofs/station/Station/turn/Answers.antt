use Rattle.std.proofs.Common.{sym, subst, ◌∙◌}
use Rattle.socket_pump.specs.Wires.{Account}
use Rattle.socket_pump.specs.Turns.{Times}
use Rattle.socket_pump.specs.Last.{PumpView, last_of}
use Rattle.office_stations.specs.declared.fault.RunFault.{RunFault}
use Rattle.office_stations.specs.declared.fault.RunFault.TheVariants.{WireFailed}
use Rattle.office_stations.specs.declared.pace.TimedTurn.{TimedTurn}
use Rattle.office_stations.specs.Rounds.{BreaksOff, Turns}
use Rattle.office_stations.specs.refinement.Standings.{standing}
use Rattle.office_stations.proofs.Rounds.{turned, turned_and_looked, not_begun, broken_off}
use Rattle.office_stations.proofs.station.Station.turn.Goals as goal

pub returns-in-Err-clause-breaks_off : goal.returns-in-Err-clause-breaks_off
returns-in-Err-clause-breaks_off g c =
    let a : Account = g.S.Wire.account c.args.self.now.socket in
    let b : Account = g.S.Wire.account c.wait.new.self.socket in
    let l : Times = last_of c.args.self.now.pump.lasts in
    subst (λ (x : RunFault). BreaksOff c.args.turning g.S.Wire.tells c.args.pass.now.tag c.args.desk.now.key (standing c.args.pass.now a l) (standing c.args.pass.now b (last_of c.wait.new.self.pump.lasts)) x) (sym c.in-Err.ensures.fault)
    (subst (λ (x : PumpView). BreaksOff c.args.turning g.S.Wire.tells c.args.pass.now.tag c.args.desk.now.key (standing c.args.pass.now a l) (standing c.args.pass.now b (last_of x.lasts)) WireFailed) (sym c.wait.ensures.pump)
    (not_begun c.args.turning g.S.Wire.tells c.args.pass.now.tag c.args.desk.now.key c.args.pass.now a b l c.in-Err.ensures.failed))

pub returns-in-Err-turn-clause-breaks_off : goal.returns-in-Err-turn-clause-breaks_off
returns-in-Err-turn-clause-breaks_off g c =
    let k = c.args.desk.now.key in
    let a : Account = g.S.Wire.account c.args.self.now.socket in
    let b : Account = g.S.Wire.account c.turn.new.wire in
    subst (λ (x : PumpView). BreaksOff c.args.turning g.S.Wire.tells c.args.pass.now.tag k (standing c.args.pass.now a (last_of x.lasts)) (standing c.turn.new.pass b (last_of c.turn.new.pump.lasts)) c.of_pump.result) c.wait.ensures.pump
    (broken_off c.args.turning g.S.Wire.tells c.args.pass.now.tag k c.args.pass.now c.turn.new.pass a (g.S.Wire.account c.wait.new.self.socket) b (last_of c.wait.new.self.pump.lasts) (last_of c.turn.new.pump.lasts) c.in-Ok.at c.in-Err-turn.fault c.of_pump.result
    c.in-Ok.ensures.fine c.of_pump.ensures c.in-Err-turn.ensures.turned)

pub returns-then-turn-gt0-clause-turns : goal.returns-then-turn-gt0-clause-turns
returns-then-turn-gt0-clause-turns g c =
    let k = c.args.desk.now.key in
    let a : Account = g.S.Wire.account c.args.self.now.socket in
    let t : TimedTurn = record { at = c.in-Ok.at; turn = c.in-Ok-turn.turn } in
    let q = c.count_finished-finished.new.pass in
    subst (λ s. Turns c.args.turning g.S.Wire.tells c.args.pass.now.tag k t (standing c.args.pass.now a (last_of c.args.self.now.pump.lasts)) (standing q (g.S.Wire.account s) (last_of c.note_finished.new.self.pump.lasts))) (sym (c.note_finished.ensures.socket ∙ c.note.ensures.socket))
    (subst (λ (x : PumpView). Turns c.args.turning g.S.Wire.tells c.args.pass.now.tag k t (standing c.args.pass.now a (last_of c.args.self.now.pump.lasts)) (standing q (g.S.Wire.account c.turn.new.wire) (last_of x.lasts))) (sym (c.note_finished.ensures.pump ∙ c.note.ensures.pump))
    (subst (λ (x : PumpView). Turns c.args.turning g.S.Wire.tells c.args.pass.now.tag k t (standing c.args.pass.now a (last_of x.lasts)) (standing q (g.S.Wire.account c.turn.new.wire) (last_of c.turn.new.pump.lasts))) c.wait.ensures.pump
    (turned_and_looked c.args.turning g.S.Wire.tells c.args.pass.now.tag k c.args.pass.now c.turn.new.pass q a (g.S.Wire.account c.wait.new.self.socket) (g.S.Wire.account c.turn.new.wire) (last_of c.wait.new.self.pump.lasts) (last_of c.turn.new.pump.lasts) t
    c.in-Ok.ensures.fine c.in-Ok-turn.ensures.turned c.count_finished-finished.ensures.looked)))

pub returns-else-turn-gt0-clause-turns : goal.returns-else-turn-gt0-clause-turns
returns-else-turn-gt0-clause-turns g c =
    let k = c.args.desk.now.key in
    let a : Account = g.S.Wire.account c.args.self.now.socket in
    let t : TimedTurn = record { at = c.in-Ok.at; turn = c.in-Ok-turn.turn } in
    let q = c.turn.new.pass in
    subst (λ s. Turns c.args.turning g.S.Wire.tells c.args.pass.now.tag k t (standing c.args.pass.now a (last_of c.args.self.now.pump.lasts)) (standing q (g.S.Wire.account s) (last_of c.note.new.self.pump.lasts))) (sym c.note.ensures.socket)
    (subst (λ (x : PumpView). Turns c.args.turning g.S.Wire.tells c.args.pass.now.tag k t (standing c.args.pass.now a (last_of c.args.self.now.pump.lasts)) (standing q (g.S.Wire.account c.turn.new.wire) (last_of x.lasts))) (sym c.note.ensures.pump)
    (subst (λ (x : PumpView). Turns c.args.turning g.S.Wire.tells c.args.pass.now.tag k t (standing c.args.pass.now a (last_of x.lasts)) (standing q (g.S.Wire.account c.turn.new.wire) (last_of c.turn.new.pump.lasts))) c.wait.ensures.pump
    (turned c.args.turning g.S.Wire.tells c.args.pass.now.tag k c.args.pass.now q a (g.S.Wire.account c.wait.new.self.socket) (g.S.Wire.account c.turn.new.wire) (last_of c.wait.new.self.pump.lasts) (last_of c.turn.new.pump.lasts) t c.in-Ok.ensures.fine c.in-Ok-turn.ensures.turned)))
