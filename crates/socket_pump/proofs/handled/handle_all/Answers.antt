use Rattle.std.proofs.Common.{ℕ, Some, None, true, false, refl, subst, arith}
use Rattle.socket_pump.specs.Last.{last_of}
use Rattle.socket_pump.specs.refinement.Stages.{HandledOne, BrokeHandlingOne}
use Rattle.socket_pump.proofs.Left.{stays_both}
use Rattle.socket_pump.proofs.Handling.{none_handled, one_taken_on, one_refused_on, handled_all_full, handled_all_fewer, broke_handling_later}
use Rattle.socket_pump.proofs.handled.handle_all.Goals as goal

pub loop-taken-init : goal.loop-taken-init
loop-taken-init g c = record {
  stays = (c.requires.of, refl, c.requires.idle);
  few = omega arith;
  ruled = omega arith;
  handled = none_handled g.W.Wire.tells c.args.pass.now.tag c.args.desk.now.key (last_of c.args.last.now) c.args.pass.now (g.W.Wire.account c.args.wire.now) c.args.senders.now;
}

pub returns-in-Ok-None-clause-stays : goal.returns-in-Ok-None-clause-stays
returns-in-Ok-None-clause-stays g c = stays_both c.args.desk.now c.args.pass.now c.loop-taken.pass c.handle_one.new.pass c.loop-taken.invariant.stays c.handle_one.ensures.stays

pub returns-in-Ok-None-clause-handled : goal.returns-in-Ok-None-clause-handled
returns-in-Ok-None-clause-handled g c =
    let i = c.loop-taken.invariant in
    let h = rw c.in-Ok-None.field-0-is at c.in-Ok-None.ensures.handled in
    let one = subst (λ (t : ℕ). HandledOne g.W.Wire.tells t c.args.desk.now.key (last_of c.loop-taken.last) c.loop-taken.pass (g.W.Wire.account c.loop-taken.wire) c.loop-taken.senders None (g.W.Wire.account c.handle_one.new.wire) c.handle_one.new.pass c.handle_one.new.senders (last_of c.handle_one.new.last)) i.stays.1 h in
    handled_all_fewer g.W.Wire.tells c.args.pass.now.tag c.args.desk.now.key (last_of c.args.last.now) (last_of c.loop-taken.last) (last_of c.handle_one.new.last) c.args.pass.now c.loop-taken.pass c.handle_one.new.pass (g.W.Wire.account c.args.wire.now) (g.W.Wire.account c.loop-taken.wire) (g.W.Wire.account c.handle_one.new.wire)
    c.args.senders.now c.loop-taken.senders c.handle_one.new.senders c.loop-taken.taken c.loop-taken.refused c.loop-taken.followed i.handled c.loop-taken-test.true one

pub loop-taken-smaller-in-Ok-Some-true-default : goal.loop-taken-smaller-in-Ok-Some-true-default
loop-taken-smaller-in-Ok-Some-true-default g c = omega (arith, c.loop-taken-test.true)

pub loop-taken-preserved-in-Ok-Some-true-default : goal.loop-taken-preserved-in-Ok-Some-true-default
loop-taken-preserved-in-Ok-Some-true-default g c =
    let i = c.loop-taken.invariant in
    let h = rw (c.in-Ok-Some-true-default.field-0-is, c.in-Ok-Some-true-default.field-0-0-0-test) at c.in-Ok-Some-true-default.ensures.handled in
    let few = rw c.in-Ok-Some-true-default.field-0-is at c.in-Ok-Some-true-default.ensures.few in
    let one = subst (λ (t : ℕ). HandledOne g.W.Wire.tells t c.args.desk.now.key (last_of c.loop-taken.last) c.loop-taken.pass (g.W.Wire.account c.loop-taken.wire) c.loop-taken.senders (Some (true, c.in-Ok-Some-true-default.rules)) (g.W.Wire.account c.handle_one.new.wire) c.handle_one.new.pass c.handle_one.new.senders (last_of c.handle_one.new.last)) i.stays.1 h in
    record {
      stays = stays_both c.args.desk.now c.args.pass.now c.loop-taken.pass c.handle_one.new.pass i.stays c.handle_one.ensures.stays;
      few = omega (arith, c.loop-taken-test.true);
      ruled = omega (arith, i.ruled, few);
      handled = one_taken_on g.W.Wire.tells c.args.pass.now.tag c.args.desk.now.key (last_of c.args.last.now) (last_of c.loop-taken.last) (last_of c.handle_one.new.last) c.args.pass.now c.loop-taken.pass c.handle_one.new.pass (g.W.Wire.account c.args.wire.now) (g.W.Wire.account c.loop-taken.wire) (g.W.Wire.account c.handle_one.new.wire)
          c.args.senders.now c.loop-taken.senders c.handle_one.new.senders c.loop-taken.taken c.loop-taken.refused c.loop-taken.followed c.in-Ok-Some-true-default.rules i.handled one;
    }

pub loop-taken-smaller : goal.loop-taken-smaller
loop-taken-smaller g c = omega (arith, c.loop-taken-test.true)

pub loop-taken-preserved : goal.loop-taken-preserved
loop-taken-preserved g c =
    let i = c.loop-taken.invariant in
    let h = rw (c.in-Ok-Some-false-default.field-0-is, c.in-Ok-Some-false-default.field-0-0-0-test) at c.in-Ok-Some-false-default.ensures.handled in
    let few = rw c.in-Ok-Some-false-default.field-0-is at c.in-Ok-Some-false-default.ensures.few in
    let one = subst (λ (t : ℕ). HandledOne g.W.Wire.tells t c.args.desk.now.key (last_of c.loop-taken.last) c.loop-taken.pass (g.W.Wire.account c.loop-taken.wire) c.loop-taken.senders (Some (false, c.in-Ok-Some-false-default.rules)) (g.W.Wire.account c.handle_one.new.wire) c.handle_one.new.pass c.handle_one.new.senders (last_of c.handle_one.new.last)) i.stays.1 h in
    record {
      stays = stays_both c.args.desk.now c.args.pass.now c.loop-taken.pass c.handle_one.new.pass i.stays c.handle_one.ensures.stays;
      few = omega (arith, c.loop-taken-test.true);
      ruled = omega (arith, i.ruled, few);
      handled = one_refused_on g.W.Wire.tells c.args.pass.now.tag c.args.desk.now.key (last_of c.args.last.now) (last_of c.loop-taken.last) (last_of c.handle_one.new.last) c.args.pass.now c.loop-taken.pass c.handle_one.new.pass (g.W.Wire.account c.args.wire.now) (g.W.Wire.account c.loop-taken.wire) (g.W.Wire.account c.handle_one.new.wire)
          c.args.senders.now c.loop-taken.senders c.handle_one.new.senders c.loop-taken.taken c.loop-taken.refused c.loop-taken.followed c.in-Ok-Some-false-default.rules i.handled one;
    }

pub returns-in-Err-clause-stays : goal.returns-in-Err-clause-stays
returns-in-Err-clause-stays g c = stays_both c.args.desk.now c.args.pass.now c.loop-taken.pass c.handle_one.new.pass c.loop-taken.invariant.stays c.handle_one.ensures.stays

pub returns-in-Err-clause-handled : goal.returns-in-Err-clause-handled
returns-in-Err-clause-handled g c =
    let i = c.loop-taken.invariant in
    let one = subst (λ (t : ℕ). BrokeHandlingOne g.W.Wire.tells t c.args.desk.now.key (last_of c.loop-taken.last) c.loop-taken.pass (g.W.Wire.account c.loop-taken.wire) c.in-Err.fault (g.W.Wire.account c.handle_one.new.wire) c.handle_one.new.pass (last_of c.handle_one.new.last)) i.stays.1 c.in-Err.ensures.handled in
    broke_handling_later g.W.Wire.tells c.args.pass.now.tag c.args.desk.now.key (last_of c.args.last.now) (last_of c.loop-taken.last) (last_of c.handle_one.new.last) c.args.pass.now c.loop-taken.pass c.handle_one.new.pass (g.W.Wire.account c.args.wire.now) (g.W.Wire.account c.loop-taken.wire) (g.W.Wire.account c.handle_one.new.wire)
    c.args.senders.now c.loop-taken.senders c.loop-taken.taken c.loop-taken.refused c.loop-taken.followed c.in-Err.fault i.handled c.loop-taken-test.true one

pub returns-clause-stays : goal.returns-clause-stays
returns-clause-stays g c = c.loop-taken.invariant.stays

pub returns-clause-handled : goal.returns-clause-handled
returns-clause-handled g c =
    let i = c.loop-taken.invariant in
    handled_all_full g.W.Wire.tells c.args.pass.now.tag c.args.desk.now.key (last_of c.args.last.now) (last_of c.loop-taken.last) c.args.pass.now c.loop-taken.pass (g.W.Wire.account c.args.wire.now) (g.W.Wire.account c.loop-taken.wire) c.args.senders.now c.loop-taken.senders c.loop-taken.taken c.loop-taken.refused c.loop-taken.followed i.handled
    (omega (arith, i.few, c.loop-taken-test.false))
