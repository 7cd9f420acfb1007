use Rattle.std.proofs.Common.{Ok, Err, refl, arith}
use Rattle.socket_pump.specs.Last.{last_of}
use Rattle.socket_pump.proofs.Owing.{owes_one}
use Rattle.socket_pump.proofs.Hearing.{reads, read_received}
use Rattle.socket_pump.proofs.Handling.{handling_one, broke_handling_at, broke_handling_after, broke_handling_wire, follows_refused, follows_taken, rules_of, marks_one, marks_refused}
use Rattle.socket_pump.proofs.handled.handle_one.Goals as goal

pub returns-in-Ok-None-clause-handled : goal.returns-in-Ok-None-clause-handled
returns-in-Ok-None-clause-handled g c =
    let w = rw c.in-Ok-None.field-0-is at c.in-Ok-None.ensures.account in
    (refl, w.0, w.1, refl, λ v n. refl)

pub returns-in-Err-clause-handled : goal.returns-in-Err-clause-handled
returns-in-Err-clause-handled g c =
    let w = c.in-Err.ensures.account in
    broke_handling_wire g.W.Wire.tells c.args.pass.now.tag c.args.desk.now.key (last_of c.args.last.now) c.args.pass.now (g.W.Wire.account c.args.wire.now) (g.W.Wire.account c.receive.new.self) w.0 w.1

pub returns-in-Err-judged-clause-handled : goal.returns-in-Err-judged-clause-handled
returns-in-Err-judged-clause-handled g c =
    let w = rw c.in-Ok-Some.field-0-is at c.in-Ok-Some.ensures.account in
    let j = c.in-Err-judged.ensures in
    let d = c.decode-read.ensures in
    let does = read_received c.what_is_read_is_received.ensures c.args.pass.now.tag c.args.desk.now.key c.args.pass.now c.take_read-answer.new.pass _ c.decode-read.result c.take_read-answer.result d.found d.only d.fault c.take_read-answer.ensures.taken in
    broke_handling_at c.full_at_the_limit.ensures g.W.Wire.tells c.args.pass.now.tag c.args.desk.now.key (last_of c.args.last.now) c.args.pass.now c.take_read-answer.new.pass (g.W.Wire.account c.args.wire.now) (g.W.Wire.account c.receive.new.self) _ c.take_read-answer.result j.0 _
    (reads _ c.decode-read.result d.found d.fault) does j.1 j.2 w.0 w.1

-- ---- it was refused

pub returns-in-Ok-false-clause-handled : goal.returns-in-Ok-false-clause-handled
returns-in-Ok-false-clause-handled g c =
    let w = rw c.in-Ok-Some.field-0-is at c.in-Ok-Some.ensures.account in
    let j = rw c.in-Ok-false.field-0-test at c.in-Ok-false.ensures in
    let d = c.decode-read.ensures in
    let does = read_received c.what_is_read_is_received.ensures c.args.pass.now.tag c.args.desk.now.key c.args.pass.now c.take_read-answer.new.pass _ c.decode-read.result c.take_read-answer.result d.found d.only d.fault c.take_read-answer.ensures.taken in (
      _,
      handling_one g.W.Wire.tells c.args.pass.now.tag c.args.desk.now.key c.args.pass.now c.take_read-answer.new.pass c.take_read-answer.new.pass (g.W.Wire.account c.args.wire.now) (g.W.Wire.account c.receive.new.self) _ c.take_read-answer.result (Ok 0) does j.0
          (follows_refused c.args.pass.now.tag c.args.desk.now.key c.take_read-answer.new.pass c.take_read-answer.result j.1) tt w.0 w.1,
      omega (arith, j.1),
      refl,
      owes_one c.args.senders.now c.note.new.self _ c.decode-read.result c.take_read-answer.result d.found d.only c.note.ensures,
      marks_refused (last_of c.args.last.now) _ c.take_read-answer.result j.1,
    )

-- ---- it was taken, and rules follow

pub returns-in-Ok-clause-handled : goal.returns-in-Ok-clause-handled
returns-in-Ok-clause-handled g c =
    let w = rw c.in-Ok-Some.field-0-is at c.in-Ok-Some.ensures.account in
    let j = rw c.in-Ok-true.field-0-test at c.in-Ok-true.ensures in
    let d = c.decode-read.ensures in
    let m = c.take_read-answer.new.pass in
    let does = read_received c.what_is_read_is_received.ensures c.args.pass.now.tag c.args.desk.now.key c.args.pass.now m _ c.decode-read.result c.take_read-answer.result d.found d.only d.fault c.take_read-answer.ensures.taken in
    let rules = rules_of m.tag c.args.pass.now.tag c.args.desk.now.key (Ok c.in-Ok.rules) m c.advance.new.pass c.take_read-answer.ensures.stays.1 c.in-Ok.ensures.advanced in (
      _,
      handling_one g.W.Wire.tells c.args.pass.now.tag c.args.desk.now.key c.args.pass.now m c.advance.new.pass (g.W.Wire.account c.args.wire.now) (g.W.Wire.account c.receive.new.self) _ c.take_read-answer.result (Ok c.in-Ok.rules) does j.0
          (follows_taken c.args.pass.now.tag c.args.desk.now.key m c.advance.new.pass c.take_read-answer.result (Ok c.in-Ok.rules) j.1 rules) tt w.0 w.1,
      omega (arith, j.1),
      refl,
      owes_one c.args.senders.now c.note.new.self _ c.decode-read.result c.take_read-answer.result d.found d.only c.note.ensures,
      marks_one (last_of c.args.last.now) (last_of c.hear.new.self) _ c.decode-read.result c.take_read-answer.result d.found d.only j.1 c.hear.ensures,
    )

pub returns-in-Err-advance-clause-handled : goal.returns-in-Err-advance-clause-handled
returns-in-Err-advance-clause-handled g c =
    let w = rw c.in-Ok-Some.field-0-is at c.in-Ok-Some.ensures.account in
    let j = rw c.in-Ok-true.field-0-test at c.in-Ok-true.ensures in
    let d = c.decode-read.ensures in
    let m = c.take_read-answer.new.pass in
    let does = read_received c.what_is_read_is_received.ensures c.args.pass.now.tag c.args.desk.now.key c.args.pass.now m _ c.decode-read.result c.take_read-answer.result d.found d.only d.fault c.take_read-answer.ensures.taken in
    let rules = rules_of m.tag c.args.pass.now.tag c.args.desk.now.key (Err c.in-Err-advance.stopped) m c.advance.new.pass c.take_read-answer.ensures.stays.1 c.in-Err-advance.ensures.advanced in
    broke_handling_after g.W.Wire.tells c.args.pass.now.tag c.args.desk.now.key (last_of c.args.last.now) (last_of c.hear.new.self) c.args.pass.now m c.advance.new.pass (g.W.Wire.account c.args.wire.now) (g.W.Wire.account c.receive.new.self) _ c.take_read-answer.result c.in-Err-advance.stopped _ does j.1 rules c.fault_of.ensures w.0 w.1
    (marks_one (last_of c.args.last.now) (last_of c.hear.new.self) _ c.decode-read.result c.take_read-answer.result d.found d.only j.1 c.hear.ensures)
