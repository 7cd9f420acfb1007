use Rattle.std.proofs.Common.{[], ◌∷◌, Some, Ok, Err}
use Rattle.socket_pump.proofs.Telling.{message_lost}
use Rattle.socket_pump.proofs.Counting.{only_for, counts, count_refused, one_count, count_out}
use Rattle.socket_pump.proofs.pump.send_count.Goals as goal

pub returns-in-Err-clause-told : goal.returns-in-Err-clause-told
returns-in-Err-clause-told g c =
    let p = c.args.pass.now in
    let q = c.send-answer.new.pass in
    count_refused g.W.Wire.tells p.tag c.args.desk.now.key p q (g.W.Wire.account c.args.wire.now) c.args.v c.in-Err.refusal c.fault_of.result c.requires.idle
    (counts p.tag c.args.desk.now.key p q c.args.v c.send-answer.result (Err c.in-Err.refusal) c.requires.near c.send-answer.ensures.sent c.in-Err.ensures) c.fault_of.ensures

pub returns-in-Ok-clause-told : goal.returns-in-Ok-clause-told
returns-in-Ok-clause-told g c =
    let k = c.args.desk.now.key in
    let p = c.args.pass.now in
    let q = c.send-answer.new.pass in
    let f = c.in-Ok-Some.frame in
    let made = rw c.in-Ok-Some.field-0-is at c.in-Ok-Some.ensures in
    let o = one_count p.tag k p q c.args.v f (counts p.tag k p q c.args.v c.send-answer.result (Ok (Some f)) c.requires.near c.send-answer.ensures.sent made) in
    count_out g.W.Wire.tells p.tag k p q (g.W.Wire.account c.args.wire.now) (g.W.Wire.account c.put_out.new.wire) c.args.v f o c.in-Ok.ensures.0 c.in-Ok.ensures.1

pub returns-in-Err-put_out-clause-told : goal.returns-in-Err-put_out-clause-told
returns-in-Err-put_out-clause-told g c =
    let k = c.args.desk.now.key in
    let p = c.args.pass.now in
    let q = c.send-answer.new.pass in
    let f = c.in-Ok-Some.frame in
    let made = rw c.in-Ok-Some.field-0-is at c.in-Ok-Some.ensures in
    let o = one_count p.tag k p q c.args.v f (counts p.tag k p q c.args.v c.send-answer.result (Ok (Some f)) c.requires.near c.send-answer.ensures.sent made) in
    (o.made ∷ [], message_lost g.W.Wire.tells p.tag k p q (g.W.Wire.account c.args.wire.now) (g.W.Wire.account c.put_out.new.wire) o.made o.does c.in-Err-put_out.ensures.0 c.in-Err-put_out.ensures.1, (o.number, λ s. elim s [ ], tt), only_for c.args.v o.made o.to)
