use Rattle.std.proofs.Common.{◌≡◌, ℕ, ◌+◌, ◌∙◌, sym, arith, subst}
use Rattle.socket_pump.specs.Last.{last_of}
use Rattle.socket_pump.specs.refinement.Stages.{SpokeOf, BrokenOf}
use Rattle.socket_pump.proofs.Speaking.{Waiting, SpokeSoFar, waiting_are, speaking_starts, speaking_on, spoken_to, speaking_broke, spoken_to_none}
use Rattle.socket_pump.proofs.pump.tell_one.Goals as goal

pub returns-in_default-clause-told : goal.returns-in_default-clause-told
returns-in_default-clause-told g c =
    spoken_to_none c.args.backoff g.W.Wire.tells c.args.pass.now.tag c.args.desk.now.key (last_of c.args.last.now) c.args.now c.args.pass.now c.waiting.new.pass (g.W.Wire.account c.args.wire.now) c.args.v c.in_default.field-0 c.requires.idle c.waiting.ensures.looked c.in_default.ensures.waiting

pub loop-number-init : goal.loop-number-init
loop-number-init g c = record {
  stays = c.waiting.ensures.stays;
  soFar = speaking_starts c.links_only_grow.ensures c.args.backoff g.W.Wire.tells c.args.pass.now.tag c.args.desk.now.key (last_of c.args.last.now) c.args.now c.args.pass.now c.waiting.new.pass (g.W.Wire.account c.args.wire.now) c.args.v c.in-Ok.first c.in-Ok.count c.requires.idle c.waiting.ensures.looked
      waiting;
}
  where
    waiting : Waiting c.args.desk.now.key c.waiting.new.pass c.args.v c.in-Ok.first c.in-Ok.count
    waiting = waiting_are c.args.desk.now.key c.waiting.new.pass c.args.v c.in-Ok.first c.in-Ok.count c.in-Ok.ensures.waiting

pub returns-in-Err-clause-told : goal.returns-in-Err-clause-told
returns-in-Err-clause-told g c =
    let k = c.args.desk.now.key in
    let v = c.args.v in
    let l = c.loop-number in
    speaking_broke c.links_only_grow.ensures c.args.backoff g.W.Wire.tells c.args.pass.now.tag k (last_of c.args.last.now) (last_of l.last) (last_of c.tell_message.new.last) c.args.now c.args.pass.now l.pass c.tell_message.new.pass
    (g.W.Wire.account c.args.wire.now) (g.W.Wire.account l.wire) (g.W.Wire.account c.tell_message.new.wire) l.sent v c.in-Ok.first (c.in-Ok.first + c.in-Ok.count) l.number c.in-Err.fault (omega (arith, c.in-Ok.ensures.few)) l.invariant.soFar
    (subst (λ (t : ℕ). BrokenOf c.args.backoff g.W.Wire.tells t k (last_of l.last) (last_of c.tell_message.new.last) c.args.now l.pass (g.W.Wire.account l.wire) c.in-Err.fault (g.W.Wire.account c.tell_message.new.wire) c.tell_message.new.pass v l.number) l.invariant.stays.1 c.in-Err.ensures.told)

pub loop-number-preserved : goal.loop-number-preserved
loop-number-preserved g c =
    let k = c.args.desk.now.key in
    let v = c.args.v in
    let l = c.loop-number in
    let more = c.in-Ok-tell_message.more in
    record {
      stays = (c.tell_message.ensures.stays.0, c.tell_message.ensures.stays.1 ∙ l.invariant.stays.1, c.tell_message.ensures.stays.2);
      soFar = speaking_on c.links_only_grow.ensures c.args.backoff g.W.Wire.tells c.args.pass.now.tag k (last_of c.args.last.now) (last_of l.last) (last_of c.tell_message.new.last) c.args.now c.args.pass.now l.pass c.tell_message.new.pass
          (g.W.Wire.account c.args.wire.now) (g.W.Wire.account l.wire) (g.W.Wire.account c.tell_message.new.wire) l.sent more v c.in-Ok.first (c.in-Ok.first + c.in-Ok.count) l.number (omega (arith, c.in-Ok.ensures.few)) c.in-Ok-tell_message.ensures.few l.invariant.soFar
          (subst (λ (t : ℕ). SpokeOf c.args.backoff g.W.Wire.tells t k (last_of l.last) (last_of c.tell_message.new.last) c.args.now l.pass (g.W.Wire.account l.wire) more (g.W.Wire.account c.tell_message.new.wire) c.tell_message.new.pass v l.number) l.invariant.stays.1 c.in-Ok-tell_message.ensures.told)
          c.in-Ok-tell_message.ensures.others;
    }

pub returns-clause-told : goal.returns-clause-told
returns-clause-told g c =
    let l = c.loop-number in
    let end : l.number ≡ c.in-Ok.first + c.in-Ok.count = omega arith in
    spoken_to c.args.backoff g.W.Wire.tells c.args.pass.now.tag c.args.desk.now.key (last_of c.args.last.now) (last_of l.last) c.args.now c.args.pass.now l.pass (g.W.Wire.account c.args.wire.now) (g.W.Wire.account l.wire) l.sent c.args.v c.in-Ok.first l.number
    (subst (λ (n : ℕ). SpokeSoFar c.args.backoff g.W.Wire.tells c.args.pass.now.tag c.args.desk.now.key (last_of c.args.last.now) (last_of l.last) c.args.now c.args.pass.now (g.W.Wire.account c.args.wire.now) l.sent (g.W.Wire.account l.wire) l.pass c.args.v c.in-Ok.first n l.number) (sym end) l.invariant.soFar)
