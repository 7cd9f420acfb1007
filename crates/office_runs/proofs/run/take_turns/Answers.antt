use Rattle.std.proofs.Common.{◌+◌, ◌<◌, ◌≤◌, drop, sym, ap, subst, ◌∙◌, arith}
use Rattle.socket_pump.specs.Last.{PumpView, last_of}
use Rattle.office_stations.specs.declared.turning.Turning.TheVariants.{Plain}
use Rattle.office_stations.specs.Rounds.{Standing, of_office}
use Rattle.office_stations.specs.refinement.Standings.{standing}
use Rattle.office_stations.specs.refinement.RoundLaws.{Made, one_round, ends_at_sessions, ends_in_turn}
use Rattle.office_runs.proofs.run.take_turns.Goals as goal

pub returns-in-Err-clause-goes : goal.returns-in-Err-clause-goes
returns-in-Err-clause-goes g c =
    let begin : Standing = standing c.args.pass.now (g.S.Wire.account c.args.station.now.socket) (last_of c.args.station.now.pump.lasts) in
    let few : c.loop.count < c.args.turns = omega (arith, c.if-count-turns.false) in
    ends_at_sessions Plain g.S.Wire.tells c.args.pass.now.tag c.loop.pass.tag c.args.desk.now.key c.loop.count c.args.turns begin c.loop.pass c.submit_some.new.pass (g.S.Wire.account c.loop.station.socket) (last_of c.loop.station.pump.lasts)
    (of_office c.args.me c.args.programs.now) (of_office c.args.me (drop c.loop.next c.args.programs.now)) c.in-Err.fault few c.loop.invariant.stays.1 c.loop.invariant.made c.in-Err.ensures.stops

pub returns-in-Err-turn-clause-goes : goal.returns-in-Err-turn-clause-goes
returns-in-Err-turn-clause-goes g c =
    let begin : Standing = standing c.args.pass.now (g.S.Wire.account c.args.station.now.socket) (last_of c.args.station.now.pump.lasts) in
    let end : Standing = standing c.turn.new.pass (g.S.Wire.account c.turn.new.self.socket) (last_of c.turn.new.self.pump.lasts) in
    let few : c.loop.count < c.args.turns = omega (arith, c.if-count-turns.false) in
    ends_in_turn Plain g.S.Wire.tells c.args.pass.now.tag c.loop.pass.tag c.submit_some.new.pass.tag c.args.desk.now.key c.loop.count c.args.turns begin c.loop.pass c.submit_some.new.pass (g.S.Wire.account c.loop.station.socket)
    (last_of c.loop.station.pump.lasts) end (of_office c.args.me c.args.programs.now) (of_office c.args.me (drop c.loop.next c.args.programs.now)) (of_office c.args.me (drop c.submit_some.new.next c.args.programs.now)) c.in-Err-turn.fault
    few c.loop.invariant.stays.1 (c.submit_some.ensures.stays.1 ∙ c.loop.invariant.stays.1) c.loop.invariant.made c.in-Ok.ensures.fills c.in-Err-turn.ensures.breaks_off

pub loop-preserved : goal.loop-preserved
loop-preserved g c =
    let k = c.args.desk.now.key in
    let tag = c.args.pass.now.tag in
    let begin : Standing = standing c.args.pass.now (g.S.Wire.account c.args.station.now.socket) (last_of c.args.station.now.pump.lasts) in
    let own = of_office c.args.me c.args.programs.now in
    let left = of_office c.args.me (drop c.submit_some.new.next c.args.programs.now) in
    let below : c.loop.count < c.args.turns = omega (arith, c.if-count-turns.false) in
    let one : c.counted-count.result ≤ 1 = c.counted-count.ensures.one in
    let round = one_round Plain g.S.Wire.tells tag c.loop.pass.tag c.submit_some.new.pass.tag k c.args.turns c.loop.count c.counted-count.result c.in-Ok-turn.turn begin c.loop.pass c.submit_some.new.pass c.turn.new.pass
    (g.S.Wire.account c.loop.station.socket) (g.S.Wire.account c.turn.new.self.socket) (last_of c.loop.station.pump.lasts) (last_of c.turn.new.self.pump.lasts) own (of_office c.args.me (drop c.loop.next c.args.programs.now)) left
    c.loop.invariant.stays.1 (c.submit_some.ensures.stays.1 ∙ c.loop.invariant.stays.1) below c.counted-count.ensures.counted c.loop.invariant.made c.in-Ok.ensures.fills c.in-Ok-turn.ensures.turns in
    record {
      stays = (c.turn.ensures.stays.0, c.turn.ensures.stays.1 ∙ (c.submit_some.ensures.stays.1 ∙ c.loop.invariant.stays.1), c.turn.ensures.stays.2);
      key = c.loop.invariant.key ∙ (sym c.turn.ensures.key ∙ sym (ap (λ (p : PumpView). p.key) c.tell_alone.ensures.pump));
      few = omega (arith, below, one);
      made = subst (λ (p : PumpView). Made Plain g.S.Wire.tells tag k c.args.turns (c.loop.count + c.counted-count.result) begin (standing c.turn.new.pass (g.S.Wire.account c.tell_alone.new.self.socket) (last_of p.lasts)) own left) (sym c.tell_alone.ensures.pump)
          (subst (λ s. Made Plain g.S.Wire.tells tag k c.args.turns (c.loop.count + c.counted-count.result) begin (standing c.turn.new.pass (g.S.Wire.account s) (last_of c.turn.new.self.pump.lasts)) own left) (sym c.tell_alone.ensures.socket) round);
    }
