use Rattle.std.proofs.Common.{arith}
use Rattle.socket_pump.proofs.Owing.{owes_one}
use Rattle.socket_pump.proofs.Hearing.{hearing_one, broke_at, broke_wire, reads, read_received}
use Rattle.socket_pump.proofs.heard.hear_one.Goals as goal

pub returns-in-Err-clause-heard : goal.returns-in-Err-clause-heard
returns-in-Err-clause-heard g c =
    let w = c.in-Err.ensures.account in
    broke_wire g.W.Wire.tells c.args.pass.now.tag c.args.desk.now.key c.args.pass.now (g.W.Wire.account c.args.wire.now) (g.W.Wire.account c.receive.new.self) w.0 w.1

pub returns-in-Err-judged-clause-heard : goal.returns-in-Err-judged-clause-heard
returns-in-Err-judged-clause-heard g c =
    let w = rw c.in-Ok-Some.field-0-is at c.in-Ok-Some.ensures.account in
    let j = c.in-Err-judged.ensures in
    let d = c.decode-read.ensures in
    let does = read_received c.what_is_read_is_received.ensures c.args.pass.now.tag c.args.desk.now.key c.args.pass.now c.take_read-answer.new.pass _ c.decode-read.result c.take_read-answer.result d.found d.only d.fault c.take_read-answer.ensures.taken in
    broke_at c.full_at_the_limit.ensures g.W.Wire.tells c.args.pass.now.tag c.args.desk.now.key c.args.pass.now c.take_read-answer.new.pass (g.W.Wire.account c.args.wire.now) (g.W.Wire.account c.receive.new.self) _ c.take_read-answer.result j.0 _
    (reads _ c.decode-read.result d.found d.fault) does j.1 j.2 w.0 w.1

pub returns-in-Ok-clause-heard : goal.returns-in-Ok-clause-heard
returns-in-Ok-clause-heard g c =
    let w = rw c.in-Ok-Some.field-0-is at c.in-Ok-Some.ensures.account in
    let j = c.in-Ok.ensures in
    let d = c.decode-read.ensures in
    let does = read_received c.what_is_read_is_received.ensures c.args.pass.now.tag c.args.desk.now.key c.args.pass.now c.take_read-answer.new.pass _ c.decode-read.result c.take_read-answer.result d.found d.only d.fault c.take_read-answer.ensures.taken in
    (_, hearing_one g.W.Wire.tells c.args.pass.now.tag c.args.desk.now.key c.args.pass.now c.take_read-answer.new.pass (g.W.Wire.account c.args.wire.now) (g.W.Wire.account c.receive.new.self) _ c.take_read-answer.result does j.0 w.0 w.1, omega (arith, j.1), owes_one c.args.senders.now c.note.new.self _ c.decode-read.result c.take_read-answer.result d.found d.only c.note.ensures)
