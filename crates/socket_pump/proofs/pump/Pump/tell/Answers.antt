use Rattle.std.proofs.Common.{◌≡◌, ℕ, ◌∙◌, length, sym, ap, subst, refl, arith}
use Rattle.office_map.specs.PlanValue.{PlanValue, are_neighbours}
use Rattle.office_map.specs.Consistency.{IsConsistent}
use Rattle.locked_office.specs.Calls.{Key}
use Rattle.socket_pump.specs.declared.last.Lasts.{Lasts}
use Rattle.socket_pump.specs.Last.{PumpView, last_of}
use Rattle.socket_pump.specs.refinement.Counts.{Gets}
use Rattle.socket_pump.specs.refinement.Stages.{SpokeTo, BrokenTo}
use Rattle.office_map.specs.NeighbourLaws.{near_within}
use Rattle.socket_pump.proofs.Near.{near_as}
use Rattle.socket_pump.proofs.Speaking.{looked, silent_to_all, SpokeBelow, below_starts, below_on, below_past, below_broke, spoken_to_all}
use Rattle.socket_pump.proofs.pump.Pump.tell.Goals as goal

pub loop-k-init : goal.loop-k-init
loop-k-init g c =
    let p = c.args.pass.now in
    let a = g.W.Wire.account c.args.wire.now in
    let same : c.args.self.now.lasts ≡ c.self.inside.last = sym (ap (λ (x : PumpView). x.lasts) c.self.view_is) in
    record {
      plan = refl;
      me = refl;
      stays = c.some_waits.ensures.stays;
      few = omega arith;
      below = subst (λ (l : Lasts). SpokeBelow c.args.backoff g.W.Wire.tells p.tag c.args.desk.now.key (last_of c.args.self.now.lasts) (last_of l) c.args.now p a c.args.senders.now 0 a c.some_waits.new.pass c.args.senders.now 0) same
          (below_starts c.args.backoff g.W.Wire.tells p.tag c.args.desk.now.key (last_of c.args.self.now.lasts) c.args.now p c.some_waits.new.pass a c.args.senders.now (looked c.args.desk.now.key p c.some_waits.new.pass c.requires.idle c.some_waits.ensures.looked));
    }

pub returns-in-Err-clause-told : goal.returns-in-Err-clause-told
returns-in-Err-clause-told g c =
    let k = c.args.desk.now.key in
    let l = c.loop-k in
    let p = c.args.pass.now in
    below_broke c.links_only_grow.ensures c.args.backoff g.W.Wire.tells p.tag k (last_of c.args.self.now.lasts) (last_of l.self-inside.last) (last_of c.tell_one.new.last) c.args.now p l.pass c.tell_one.new.pass
    (g.W.Wire.account c.args.wire.now) (g.W.Wire.account l.wire) (g.W.Wire.account c.tell_one.new.wire) c.args.senders.now l.senders l.sent l.k c.in-Err.fault l.invariant.below
    (subst (λ (t : ℕ). BrokenTo c.args.backoff g.W.Wire.tells t k (last_of l.self-inside.last) (last_of c.tell_one.new.last) c.args.now l.pass (g.W.Wire.account l.wire) c.in-Err.fault (g.W.Wire.account c.tell_one.new.wire) c.tell_one.new.pass l.k) l.invariant.stays.1
    (subst (λ (v : ℕ). BrokenTo c.args.backoff g.W.Wire.tells l.pass.tag k (last_of l.self-inside.last) (last_of c.tell_one.new.last) c.args.now l.pass (g.W.Wire.account l.wire) c.in-Err.fault (g.W.Wire.account c.tell_one.new.wire) c.tell_one.new.pass v) c.new-v.ensures c.in-Err.ensures.told))

pub loop-k-preserved-then-not-are_neighbours : goal.loop-k-preserved-then-not-are_neighbours
loop-k-preserved-then-not-are_neighbours g c =
    let k = c.args.desk.now.key in
    let l = c.loop-k in
    let far : are_neighbours k.0 k.1 l.k ≡ c.are_neighbours.result = near_as k c.self.inside.plan l.self-inside.plan c.self.inside.me l.self-inside.me c.new-v.result l.k c.are_neighbours.result
    (c.requires.key ∙ sym (ap (λ (x : PumpView). x.key) c.self.view_is)) l.invariant.plan l.invariant.me c.new-v.ensures c.are_neighbours.ensures in
    record {
      plan = l.invariant.plan;
      me = l.invariant.me;
      stays = l.invariant.stays;
      few = omega arith;
      below = below_past c.args.backoff g.W.Wire.tells c.args.pass.now.tag k (last_of c.args.self.now.lasts) (last_of l.self-inside.last) c.args.now c.args.pass.now l.pass (g.W.Wire.account c.args.wire.now) (g.W.Wire.account l.wire) c.args.senders.now l.senders l.sent l.k
          (far ∙ c.if-not-are_neighbours.true) l.invariant.below;
    }

pub loop-k-preserved : goal.loop-k-preserved
loop-k-preserved g c =
    let k = c.args.desk.now.key in
    let l = c.loop-k in
    let p = c.args.pass.now in
    let n = c.in-Ok.count in
    record {
      plan = l.invariant.plan;
      me = l.invariant.me;
      stays = (c.tell_one.ensures.stays.0, c.tell_one.ensures.stays.1 ∙ l.invariant.stays.1, c.tell_one.ensures.stays.2);
      few = omega (arith, c.in-Ok.ensures.few);
      below = below_on c.links_only_grow.ensures c.args.backoff g.W.Wire.tells p.tag k (last_of c.args.self.now.lasts) (last_of l.self-inside.last) (last_of c.tell_one.new.last) c.args.now p l.pass c.tell_one.new.pass
          (g.W.Wire.account c.args.wire.now) (g.W.Wire.account l.wire) (g.W.Wire.account c.tell_one.new.wire) c.args.senders.now l.senders c.got.new.self l.sent n l.k l.invariant.below
          (subst (λ (t : ℕ). SpokeTo c.args.backoff g.W.Wire.tells t k (last_of l.self-inside.last) (last_of c.tell_one.new.last) c.args.now l.pass (g.W.Wire.account l.wire) n (g.W.Wire.account c.tell_one.new.wire) c.tell_one.new.pass l.k) l.invariant.stays.1
          (subst (λ (v : ℕ). SpokeTo c.args.backoff g.W.Wire.tells l.pass.tag k (last_of l.self-inside.last) (last_of c.tell_one.new.last) c.args.now l.pass (g.W.Wire.account l.wire) n (g.W.Wire.account c.tell_one.new.wire) c.tell_one.new.pass v) c.new-v.ensures c.in-Ok.ensures.told))
          (λ u i ne. c.tell_one.ensures.others u i (λ e. ne (e ∙ c.new-v.ensures)))
          (subst (λ (v : ℕ). Gets v n l.senders c.got.new.self) c.new-v.ensures c.got.ensures);
    }

pub returns-clause-told : goal.returns-clause-told
returns-clause-told g c =
    let k = c.args.desk.now.key in
    let l = c.loop-k in
    let plan : k.0 ≡ c.self.inside.plan = ap (λ (x : Key). x.0) (c.requires.key ∙ sym (ap (λ (x : PumpView). x.key) c.self.view_is)) in
    let ok = subst IsConsistent (sym plan) c.offices-k-end.ensures.consistent in
    let count : length k.0.offices ≡ length c.self.inside.plan.offices = ap (λ (x : PlanValue). length x.offices) plan in
    spoken_to_all c.args.backoff g.W.Wire.tells c.args.pass.now.tag k (last_of c.args.self.now.lasts) (last_of l.self-inside.last) c.args.now c.args.pass.now l.pass (g.W.Wire.account c.args.wire.now) (g.W.Wire.account l.wire) c.args.senders.now l.senders l.sent l.k
    (λ v near. omega (arith, near_within k.0 k.1 v ok near, count, c.offices-k-end.ensures.count)) l.invariant.below

pub returns-then-not-some_waits-clause-told : goal.returns-then-not-some_waits-clause-told
returns-then-not-some_waits-clause-told g c =
    silent_to_all c.args.backoff g.W.Wire.tells c.args.pass.now.tag c.args.desk.now.key (last_of c.args.self.now.lasts) c.args.now c.args.pass.now c.some_waits.new.pass (g.W.Wire.account c.args.wire.now) c.args.senders.now c.requires.idle c.some_waits.ensures.looked
    (λ some. let yes = c.some_waits.ensures.waits.1 some in absurd cc)
