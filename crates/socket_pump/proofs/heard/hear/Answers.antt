use Rattle.std.proofs.Common.{ℕ, Some, None, true, false, refl, subst, arith}
use Rattle.socket_pump.specs.refinement.Stages.{HeardOne, BrokeOne}
use Rattle.socket_pump.proofs.Left.{stays_both}
use Rattle.socket_pump.proofs.Hearing.{so_far_none, one_taken_more, one_refused_more, heard_all_full, heard_all_fewer, broke_later}
use Rattle.socket_pump.proofs.heard.hear.Goals as goal

pub loop-taken-init : goal.loop-taken-init
loop-taken-init g c = record {
  stays = (c.requires.of, refl, c.requires.idle);
  few = omega arith;
  heard = so_far_none g.W.Wire.tells c.args.pass.now.tag c.args.desk.now.key c.args.pass.now (g.W.Wire.account c.args.wire.now) c.args.senders.now;
}

pub returns-in-Ok-None-clause-stays : goal.returns-in-Ok-None-clause-stays
returns-in-Ok-None-clause-stays g c = stays_both c.args.desk.now c.args.pass.now c.loop-taken.pass c.hear_one.new.pass c.loop-taken.invariant.stays c.hear_one.ensures.stays

pub returns-in-Ok-None-clause-heard : goal.returns-in-Ok-None-clause-heard
returns-in-Ok-None-clause-heard g c =
    let i = c.loop-taken.invariant in
    let h = rw c.in-Ok-None.field-0-is at c.in-Ok-None.ensures.heard in
    let one = subst (λ (t : ℕ). HeardOne g.W.Wire.tells t c.args.desk.now.key c.loop-taken.pass (g.W.Wire.account c.loop-taken.wire) c.loop-taken.senders None (g.W.Wire.account c.hear_one.new.wire) c.hear_one.new.pass c.hear_one.new.senders) i.stays.1 h in
    heard_all_fewer g.W.Wire.tells c.args.pass.now.tag c.args.desk.now.key c.args.pass.now c.loop-taken.pass c.hear_one.new.pass (g.W.Wire.account c.args.wire.now) (g.W.Wire.account c.loop-taken.wire) (g.W.Wire.account c.hear_one.new.wire)
    c.args.senders.now c.loop-taken.senders c.hear_one.new.senders c.loop-taken.taken c.loop-taken.refused i.heard c.loop-taken-test.true one

pub loop-taken-smaller-in-Ok-Some-true : goal.loop-taken-smaller-in-Ok-Some-true
loop-taken-smaller-in-Ok-Some-true g c = omega (arith, c.loop-taken-test.true)

pub loop-taken-preserved-in-Ok-Some-true : goal.loop-taken-preserved-in-Ok-Some-true
loop-taken-preserved-in-Ok-Some-true g c =
    let i = c.loop-taken.invariant in
    let h = rw (c.in-Ok-Some-true.field-0-is, c.in-Ok-Some-true.field-0-0-test) at c.in-Ok-Some-true.ensures.heard in
    let one = subst (λ (t : ℕ). HeardOne g.W.Wire.tells t c.args.desk.now.key c.loop-taken.pass (g.W.Wire.account c.loop-taken.wire) c.loop-taken.senders (Some true) (g.W.Wire.account c.hear_one.new.wire) c.hear_one.new.pass c.hear_one.new.senders) i.stays.1 h in
    record {
      stays = stays_both c.args.desk.now c.args.pass.now c.loop-taken.pass c.hear_one.new.pass i.stays c.hear_one.ensures.stays;
      few = omega (arith, c.loop-taken-test.true);
      heard = one_taken_more g.W.Wire.tells c.args.pass.now.tag c.args.desk.now.key c.args.pass.now c.loop-taken.pass c.hear_one.new.pass (g.W.Wire.account c.args.wire.now) (g.W.Wire.account c.loop-taken.wire) (g.W.Wire.account c.hear_one.new.wire)
          c.args.senders.now c.loop-taken.senders c.hear_one.new.senders c.loop-taken.taken c.loop-taken.refused i.heard one;
    }

pub loop-taken-smaller : goal.loop-taken-smaller
loop-taken-smaller g c = omega (arith, c.loop-taken-test.true)

pub loop-taken-preserved : goal.loop-taken-preserved
loop-taken-preserved g c =
    let i = c.loop-taken.invariant in
    let h = rw (c.in-Ok-Some-false.field-0-is, c.in-Ok-Some-false.field-0-0-test) at c.in-Ok-Some-false.ensures.heard in
    let one = subst (λ (t : ℕ). HeardOne g.W.Wire.tells t c.args.desk.now.key c.loop-taken.pass (g.W.Wire.account c.loop-taken.wire) c.loop-taken.senders (Some false) (g.W.Wire.account c.hear_one.new.wire) c.hear_one.new.pass c.hear_one.new.senders) i.stays.1 h in
    record {
      stays = stays_both c.args.desk.now c.args.pass.now c.loop-taken.pass c.hear_one.new.pass i.stays c.hear_one.ensures.stays;
      few = omega (arith, c.loop-taken-test.true);
      heard = one_refused_more g.W.Wire.tells c.args.pass.now.tag c.args.desk.now.key c.args.pass.now c.loop-taken.pass c.hear_one.new.pass (g.W.Wire.account c.args.wire.now) (g.W.Wire.account c.loop-taken.wire) (g.W.Wire.account c.hear_one.new.wire)
          c.args.senders.now c.loop-taken.senders c.hear_one.new.senders c.loop-taken.taken c.loop-taken.refused i.heard one;
    }

pub returns-in-Err-clause-stays : goal.returns-in-Err-clause-stays
returns-in-Err-clause-stays g c = stays_both c.args.desk.now c.args.pass.now c.loop-taken.pass c.hear_one.new.pass c.loop-taken.invariant.stays c.hear_one.ensures.stays

pub returns-in-Err-clause-heard : goal.returns-in-Err-clause-heard
returns-in-Err-clause-heard g c =
    let i = c.loop-taken.invariant in
    let one = subst (λ (t : ℕ). BrokeOne g.W.Wire.tells t c.args.desk.now.key c.loop-taken.pass (g.W.Wire.account c.loop-taken.wire) c.in-Err.fault (g.W.Wire.account c.hear_one.new.wire) c.hear_one.new.pass) i.stays.1 c.in-Err.ensures.heard in
    broke_later g.W.Wire.tells c.args.pass.now.tag c.args.desk.now.key c.args.pass.now c.loop-taken.pass c.hear_one.new.pass (g.W.Wire.account c.args.wire.now) (g.W.Wire.account c.loop-taken.wire) (g.W.Wire.account c.hear_one.new.wire)
    c.args.senders.now c.loop-taken.senders c.loop-taken.taken c.loop-taken.refused c.in-Err.fault i.heard c.loop-taken-test.true one

pub returns-clause-stays : goal.returns-clause-stays
returns-clause-stays g c = c.loop-taken.invariant.stays

pub returns-clause-heard : goal.returns-clause-heard
returns-clause-heard g c =
    let i = c.loop-taken.invariant in
    heard_all_full g.W.Wire.tells c.args.pass.now.tag c.args.desk.now.key c.args.pass.now c.loop-taken.pass (g.W.Wire.account c.args.wire.now) (g.W.Wire.account c.loop-taken.wire) c.args.senders.now c.loop-taken.senders c.loop-taken.taken c.loop-taken.refused i.heard
    (omega (arith, i.few, c.loop-taken-test.false))
