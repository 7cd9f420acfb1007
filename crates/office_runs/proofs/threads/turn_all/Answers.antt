use Rattle.std.proofs.Common.{◌+◌, ◌<◌, [], false, true, sym, ap, subst, ◌∙◌, arith}
use Rattle.socket_pump.specs.Last.{PumpView, last_of}
use Rattle.office_stations.specs.declared.turning.Turning.TheVariants.{Adaptive}
use Rattle.office_stations.specs.Rounds.{Standing}
use Rattle.office_runs.specs.Threads.{most_turns}
use Rattle.office_stations.specs.refinement.Standings.{standing}
use Rattle.office_stations.specs.refinement.RoundLaws.{Made}
use Rattle.office_runs.proofs.Ends.{broke, one_turn, worked_out}
use Rattle.office_runs.proofs.threads.turn_all.Goals as goal

pub loop-preserved : goal.loop-preserved
loop-preserved g c =
    let k = c.args.desk.now.key in
    let begin : Standing = standing c.args.pass.now (g.S.Wire.account c.args.station.now.socket) (last_of c.args.station.now.pump.lasts) in
    let below : c.loop.count < most_turns = omega (arith, c.if-count-ge-MOST_TURNS.false) in
    let turn = one_turn g.S.Wire.tells c.loop.pass.tag k most_turns c.loop.count c.counted-count.result c.in-Ok.turn begin c.loop.pass c.turn.new.pass (g.S.Wire.account c.loop.station.socket) (g.S.Wire.account c.turn.new.self.socket)
    (last_of c.loop.station.pump.lasts) (last_of c.turn.new.self.pump.lasts) (c.loop.invariant.stays.1 ∙ c.requires.tag) below c.counted-count.ensures.counted c.loop.invariant.made c.in-Ok.ensures.turns in
    record {
      stays = (c.turn.ensures.stays.0, c.turn.ensures.stays.1 ∙ c.loop.invariant.stays.1, c.turn.ensures.stays.2);
      key = c.loop.invariant.key ∙ (sym c.turn.ensures.key ∙ sym (ap (λ (p : PumpView). p.key) c.tell.ensures.pump));
      made = subst (λ (p : PumpView). Made Adaptive g.S.Wire.tells 0 k most_turns (c.loop.count + c.counted-count.result) begin (standing c.turn.new.pass (g.S.Wire.account c.tell.new.self.socket) (last_of p.lasts)) [] []) (sym c.tell.ensures.pump)
          (subst (λ s. Made Adaptive g.S.Wire.tells 0 k most_turns (c.loop.count + c.counted-count.result) begin (standing c.turn.new.pass (g.S.Wire.account s) (last_of c.turn.new.self.pump.lasts)) [] []) (sym c.tell.ensures.socket) turn);
    }

pub returns-then-count-ge-MOST_TURNS-clause-worked : goal.returns-then-count-ge-MOST_TURNS-clause-worked
returns-then-count-ge-MOST_TURNS-clause-worked g c =
    let begin : Standing = standing c.args.pass.now (g.S.Wire.account c.args.station.now.socket) (last_of c.args.station.now.pump.lasts) in
    let at : Standing = standing c.loop.pass (g.S.Wire.account c.loop.station.socket) (last_of c.loop.station.pump.lasts) in
    let all = c.if-count-ge-MOST_TURNS.true in
    worked_out g.S.Wire.tells c.args.desk.now.key most_turns c.loop.count false begin at c.loop.invariant.made (λ e. omega (arith, all))

pub returns-then-is_over-clause-worked : goal.returns-then-is_over-clause-worked
returns-then-is_over-clause-worked g c =
    let begin : Standing = standing c.args.pass.now (g.S.Wire.account c.args.station.now.socket) (last_of c.args.station.now.pump.lasts) in
    let at : Standing = standing c.loop.pass (g.S.Wire.account c.loop.station.socket) (last_of c.loop.station.pump.lasts) in
    worked_out g.S.Wire.tells c.args.desk.now.key most_turns c.loop.count true begin at c.loop.invariant.made (λ e. absurd cc)

pub returns-in-Err-clause-worked : goal.returns-in-Err-clause-worked
returns-in-Err-clause-worked g c =
    let begin : Standing = standing c.args.pass.now (g.S.Wire.account c.args.station.now.socket) (last_of c.args.station.now.pump.lasts) in
    let at : Standing = standing c.loop.pass (g.S.Wire.account c.loop.station.socket) (last_of c.loop.station.pump.lasts) in
    let end : Standing = standing c.turn.new.pass (g.S.Wire.account c.turn.new.self.socket) (last_of c.turn.new.self.pump.lasts) in
    let below : c.loop.count < most_turns = omega (arith, c.if-count-ge-MOST_TURNS.false) in
    broke g.S.Wire.tells c.loop.pass.tag c.args.desk.now.key most_turns c.loop.count begin at end c.in-Err.fault (c.loop.invariant.stays.1 ∙ c.requires.tag) below c.loop.invariant.made c.in-Err.ensures.breaks_off
