use Rattle.std.proofs.Common.{◌∷◌, [], refl}
use Rattle.socket_pump.specs.Last.{last_of}
use Rattle.socket_pump.proofs.Telling.{one_made, message_early, message_none, message_refused, message_out, message_lost}
use Rattle.socket_pump.proofs.pump.tell_message.Goals as goal

pub returns-then-not-is_due-clause-told : goal.returns-then-not-is_due-clause-told
returns-then-not-is_due-clause-told g c = message_early c.args.backoff _ _ _ (last_of c.args.last.now) c.args.now c.args.v c.args.number _ _ (λ d. let e = c.if-not-is_due.ensures.1 d in absurd cc)

pub returns-in-Ok-None-clause-told : goal.returns-in-Ok-None-clause-told
returns-in-Ok-None-clause-told g c =
    let h = rw c.in-Ok-None.field-0-is at c.in-Ok-None.ensures.sent in
    message_none c.args.backoff _ c.args.pass.now.tag c.args.desk.now.key (last_of c.args.last.now) c.args.now c.args.v c.args.number c.args.pass.now c.send_number.new.pass _ c.requires.idle h

pub returns-in-Err-clause-told : goal.returns-in-Err-clause-told
returns-in-Err-clause-told g c =
    message_refused c.args.backoff _ c.args.pass.now.tag c.args.desk.now.key (last_of c.args.last.now) c.args.now c.args.v c.args.number c.args.pass.now c.send_number.new.pass _ c.in-Err.refusal c.fault_of.result c.requires.idle c.in-Err.ensures.sent c.fault_of.ensures

pub returns-in-Ok-clause-told : goal.returns-in-Ok-clause-told
returns-in-Ok-clause-told g c =
    let h = rw c.in-Ok-Some.field-0-is at c.in-Ok-Some.ensures.sent in
    let due = c.if-not-is_due.ensures.0 refl in
    let o = one_made c.links_only_grow.ensures c.args.backoff c.args.pass.now.tag c.args.desk.now.key (last_of c.args.last.now) (last_of c.put.new.self) c.args.now c.args.v c.args.number c.args.pass.now c.send_number.new.pass c.in-Ok-Some.frame h due c.put.ensures.this c.put.ensures.others in
    message_out c.args.backoff g.W.Wire.tells c.args.pass.now.tag c.args.desk.now.key (last_of c.args.last.now) (last_of c.put.new.self) c.args.now c.args.v c.args.number c.args.pass.now c.send_number.new.pass (g.W.Wire.account c.args.wire.now) (g.W.Wire.account c.put_out.new.wire) c.in-Ok-Some.frame o c.in-Ok.ensures.0 c.in-Ok.ensures.1 due h.1.done.number

pub returns-in-Err-put_out-clause-told : goal.returns-in-Err-put_out-clause-told
returns-in-Err-put_out-clause-told g c =
    let h = rw c.in-Ok-Some.field-0-is at c.in-Ok-Some.ensures.sent in
    let due = c.if-not-is_due.ensures.0 refl in
    let o = one_made c.links_only_grow.ensures c.args.backoff c.args.pass.now.tag c.args.desk.now.key (last_of c.args.last.now) (last_of c.put.new.self) c.args.now c.args.v c.args.number c.args.pass.now c.send_number.new.pass c.in-Ok-Some.frame h due c.put.ensures.this c.put.ensures.others in
    (o.made ∷ [], (message_lost g.W.Wire.tells c.args.pass.now.tag c.args.desk.now.key c.args.pass.now c.send_number.new.pass (g.W.Wire.account c.args.wire.now) (g.W.Wire.account c.put_out.new.wire) o.made o.does c.in-Err-put_out.ensures.0 c.in-Err-put_out.ensures.1, o.due_once, o.remembers, o.messages), o.are)
