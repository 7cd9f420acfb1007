use Rattle.std.proofs.Common.{◌≡◌, ℕ, ◌<◌, ◌∙◌, true, false, List, [], ◌∷◌, length, refl, sym, ap, subst, arith}
use Rattle.office_map.specs.PlanValue.{PlanValue, are_neighbours}
use Rattle.office_map.specs.Consistency.{IsConsistent}
use Rattle.office_map.specs.NeighbourLaws.{near_within}
use Rattle.locked_office.specs.Calls.{Key}
use Rattle.socket_pump.specs.Last.{PumpView}
use Rattle.socket_pump.specs.Chains.{Made}
use Rattle.socket_pump.specs.Turns.{Told, BrokeTelling}
use Rattle.socket_pump.specs.refinement.Counts.{Owed, Needs}
use Rattle.socket_pump.specs.refinement.Stages.{AreCounts, AreFor}
use Rattle.socket_pump.proofs.Near.{near_as}
use Rattle.socket_pump.proofs.Counting.{counting_starts, counting_past, counting_on, counting_ends, counting_broke}
use Rattle.socket_pump.proofs.pump.Pump.acknowledge.Goals as goal

pub loop-k-init : goal.loop-k-init
loop-k-init g c = record {
  stays = (c.requires.of, refl, c.requires.idle);
  few = omega arith;
  soFar = counting_starts g.W.Wire.tells c.args.pass.now.tag c.args.desk.now.key c.args.senders.now c.args.pass.now (g.W.Wire.account c.args.wire.now);
}

pub returns-in-Err-clause-told : goal.returns-in-Err-clause-told
returns-in-Err-clause-told g c =
    let k = c.args.desk.now.key in
    let l = c.loop-k in
    let near : are_neighbours k.0 k.1 l.k ≡ true = near_as k c.self.inside.plan c.self.inside.plan c.self.inside.me c.self.inside.me c.new-v.result l.k c.are_neighbours.result
    (c.requires.key ∙ sym (ap (λ (x : PumpView). x.key) c.self.view_is)) refl refl c.new-v.ensures c.are_neighbours.ensures ∙ c.if-not-are_neighbours.false in
    let owed = subst (Owed c.args.senders.now) c.new-v.ensures (c.if-not-has.ensures.0 refl) in
    counting_broke g.W.Wire.tells c.args.pass.now.tag k c.args.senders.now c.args.pass.now l.pass c.send_count.new.pass (g.W.Wire.account c.args.wire.now) (g.W.Wire.account l.wire) (g.W.Wire.account c.send_count.new.wire) l.sent l.k c.in-Err.fault (owed, near) l.invariant.soFar
    (subst (λ (t : ℕ). (made : List Made) × BrokeTelling g.W.Wire.tells t k l.pass (g.W.Wire.account l.wire) c.in-Err.fault (g.W.Wire.account c.send_count.new.wire) c.send_count.new.pass made × AreCounts made × AreFor l.k made) l.invariant.stays.1
    (subst (λ (v : ℕ). (made : List Made) × BrokeTelling g.W.Wire.tells l.pass.tag k l.pass (g.W.Wire.account l.wire) c.in-Err.fault (g.W.Wire.account c.send_count.new.wire) c.send_count.new.pass made × AreCounts made × AreFor v made) c.new-v.ensures c.in-Err.ensures.told))

pub loop-k-preserved : goal.loop-k-preserved
loop-k-preserved g c =
    let k = c.args.desk.now.key in
    let l = c.loop-k in
    let near : are_neighbours k.0 k.1 l.k ≡ true = near_as k c.self.inside.plan c.self.inside.plan c.self.inside.me c.self.inside.me c.new-v.result l.k c.are_neighbours.result
    (c.requires.key ∙ sym (ap (λ (x : PumpView). x.key) c.self.view_is)) refl refl c.new-v.ensures c.are_neighbours.ensures ∙ c.if-not-are_neighbours.false in
    let owed = subst (Owed c.args.senders.now) c.new-v.ensures (c.if-not-has.ensures.0 refl) in
    record {
      stays = (c.send_count.ensures.stays.0, c.send_count.ensures.stays.1 ∙ l.invariant.stays.1, c.send_count.ensures.stays.2);
      few = omega arith;
      soFar = counting_on g.W.Wire.tells c.args.pass.now.tag k c.args.senders.now c.args.pass.now l.pass c.send_count.new.pass (g.W.Wire.account c.args.wire.now) (g.W.Wire.account l.wire) (g.W.Wire.account c.send_count.new.wire) l.sent l.k (owed, near) l.invariant.soFar
          (subst (λ (t : ℕ). (m : Made) × Told g.W.Wire.tells t k l.pass (g.W.Wire.account l.wire) (g.W.Wire.account c.send_count.new.wire) c.send_count.new.pass (m ∷ []) × (m.frame.number ≡ 0) × (m.to ≡ l.k)) l.invariant.stays.1
          (subst (λ (v : ℕ). (m : Made) × Told g.W.Wire.tells l.pass.tag k l.pass (g.W.Wire.account l.wire) (g.W.Wire.account c.send_count.new.wire) c.send_count.new.pass (m ∷ []) × (m.frame.number ≡ 0) × (m.to ≡ v)) c.new-v.ensures c.in-Ok.ensures.told));
    }

pub loop-k-preserved-then-not-are_neighbours : goal.loop-k-preserved-then-not-are_neighbours
loop-k-preserved-then-not-are_neighbours g c =
    let k = c.args.desk.now.key in
    let l = c.loop-k in
    let far : are_neighbours k.0 k.1 l.k ≡ false = near_as k c.self.inside.plan c.self.inside.plan c.self.inside.me c.self.inside.me c.new-v.result l.k c.are_neighbours.result
    (c.requires.key ∙ sym (ap (λ (x : PumpView). x.key) c.self.view_is)) refl refl c.new-v.ensures c.are_neighbours.ensures ∙ c.if-not-are_neighbours.true in
    record {
      stays = l.invariant.stays;
      few = omega (arith, l.invariant.few);
      soFar = counting_past g.W.Wire.tells c.args.pass.now.tag c.args.desk.now.key c.args.senders.now c.args.pass.now l.pass (g.W.Wire.account c.args.wire.now) (g.W.Wire.account l.wire) l.sent l.k (λ x. let e : are_neighbours k.0 k.1 l.k ≡ true = x.1 in absurd cc) l.invariant.soFar;
    }

pub loop-k-preserved-then-not-has : goal.loop-k-preserved-then-not-has
loop-k-preserved-then-not-has g c =
    let l = c.loop-k in
    record {
      stays = l.invariant.stays;
      few = omega (arith, l.invariant.few);
      soFar = counting_past g.W.Wire.tells c.args.pass.now.tag c.args.desk.now.key c.args.senders.now c.args.pass.now l.pass (g.W.Wire.account c.args.wire.now) (g.W.Wire.account l.wire) l.sent l.k (λ x. let e = c.if-not-has.ensures.1 (subst (Owed c.args.senders.now) (sym c.new-v.ensures) x.0) in absurd cc) l.invariant.soFar;
    }

pub returns-clause-told : goal.returns-clause-told
returns-clause-told g c =
    let k = c.args.desk.now.key in
    let l = c.loop-k in
    let h = l.invariant.soFar in
    let plan : k.0 ≡ c.self.inside.plan = ap (λ (x : Key). x.0) (c.requires.key ∙ sym (ap (λ (x : PumpView). x.key) c.self.view_is)) in
    let ok = subst IsConsistent (sym plan) c.offices.ensures.consistent in
    let count : length k.0.offices ≡ length c.self.inside.plan.offices = ap (λ (x : PlanValue). length x.offices) plan in
    let within : (v : ℕ) → Needs k c.args.senders.now v → v < l.k = λ v x. omega (arith, c.end.ensures v x.0, near_within k.0 k.1 v ok x.1, count, c.offices.ensures.count) in
    (h.made, h.told, h.count, h.are, counting_ends g.W.Wire.tells c.args.pass.now.tag k c.args.senders.now c.args.pass.now l.pass (g.W.Wire.account c.args.wire.now) (g.W.Wire.account l.wire) l.sent l.k within h)
