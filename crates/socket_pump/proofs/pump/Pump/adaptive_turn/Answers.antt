use Rattle.std.proofs.Common.{◌≡◌, ℕ, ◌<◌, List, length, Ok, Err, true, refl, sym, ap, subst, ◌∙◌, arith}
use Rattle.office_map.specs.PlanValue.{are_neighbours}
use Rattle.office_map.specs.Consistency.{IsConsistent}
use Rattle.office_map.specs.NeighbourLaws.{near_within}
use Rattle.locked_office.specs.Calls.{Key}
use Rattle.socket_pump.specs.declared.last.Backoff.TheVariants.{Exponential}
use Rattle.socket_pump.specs.Last.{PumpView, last_of}
use Rattle.socket_pump.specs.Chains.{Made}
use Rattle.socket_pump.specs.Handling.{heard_of}
use Rattle.socket_pump.specs.Turns.{Told, BrokeTelling}
use Rattle.socket_pump.specs.AdaptiveTurns.{WhileHandling, AtLastRules, AfterRules}
use Rattle.socket_pump.specs.refinement.Counts.{Acknowledges, AcknowledgesOnly}
use Rattle.socket_pump.specs.refinement.Stages.{BrokenToAll, AreCounts}
use Rattle.socket_pump.proofs.Owing.{handled_near}
use Rattle.socket_pump.proofs.Turning.{rules_with, spoke_with, counts_after, fault_after}
use Rattle.socket_pump.proofs.pump.Pump.adaptive_turn.Goals as goal

pub returns-in-Err-clause-turned : goal.returns-in-Err-clause-turned
returns-in-Err-clause-turned g c = WhileHandling c.in-Err.ensures.handled.0 c.in-Err.ensures.handled.1

pub returns-in-Err-advance-clause-turned : goal.returns-in-Err-advance-clause-turned
returns-in-Err-advance-clause-turned g c =
    let rules = rules_with c.handle.new.pass.tag c.args.pass.now.tag c.args.desk.now.key (Err c.in-Err-advance.stopped) c.handle.new.pass c.advance.new.pass c.handle.ensures.stays.1 c.in-Err-advance.ensures.advanced in
    AtLastRules c.handle.new.pass (g.W.Wire.account c.handle.new.wire) c.in-Ok.counts.0 c.in-Ok.counts.1 c.in-Ok.ensures.handled.0 c.in-Err-advance.stopped rules c.fault_of.ensures refl c.in-Ok.ensures.handled.3

pub returns-in-Err-tell-clause-turned : goal.returns-in-Err-tell-clause-turned
returns-in-Err-tell-clause-turned g c =
    let rules = rules_with c.handle.new.pass.tag c.args.pass.now.tag c.args.desk.now.key (Ok c.in-Ok-advance.rules) c.handle.new.pass c.advance.new.pass c.handle.ensures.stays.1 c.in-Ok-advance.ensures.advanced in
    let told = subst (λ (t : ℕ). BrokenToAll Exponential g.W.Wire.tells t c.args.desk.now.key (last_of c.handle.new.self.lasts) (last_of c.tell.new.self.lasts) c.args.now c.advance.new.pass (g.W.Wire.account c.handle.new.wire) c.in-Err-tell.fault (g.W.Wire.account c.tell.new.wire) c.tell.new.pass)
    (c.advance.ensures.stays.1 ∙ c.handle.ensures.stays.1) c.in-Err-tell.ensures.told in
    AfterRules c.handle.new.pass c.advance.new.pass (g.W.Wire.account c.handle.new.wire) c.in-Ok.counts.0 c.in-Ok.counts.1 c.in-Ok-advance.rules c.in-Ok.ensures.handled.0 rules (last_of c.handle.new.self.lasts) c.in-Ok.ensures.handled.3 told.0 told.1.0 told.1.1 (λ v x. absurd (omega (arith, told.1.3 v 0 x))) told.1.2

pub returns-in-Err-acknowledge-clause-turned : goal.returns-in-Err-acknowledge-clause-turned
returns-in-Err-acknowledge-clause-turned g c =
    let rules = rules_with c.handle.new.pass.tag c.args.pass.now.tag c.args.desk.now.key (Ok c.in-Ok-advance.rules) c.handle.new.pass c.advance.new.pass c.handle.ensures.stays.1 c.in-Ok-advance.ensures.advanced in
    let tagged : c.advance.new.pass.tag ≡ c.args.pass.now.tag = c.advance.ensures.stays.1 ∙ c.handle.ensures.stays.1 in
    let spoke = spoke_with Exponential g.W.Wire.tells c.advance.new.pass.tag c.args.pass.now.tag c.args.desk.now.key (last_of c.handle.new.self.lasts) (last_of c.tell.new.self.lasts) c.args.now c.advance.new.pass (g.W.Wire.account c.handle.new.wire) c.handle.new.senders c.in-Ok-tell.sent
    (g.W.Wire.account c.tell.new.wire) c.tell.new.pass c.tell.new.senders tagged c.in-Ok-tell.ensures.told in
    let told = subst (λ (t : ℕ). (made : List Made) × BrokeTelling g.W.Wire.tells t c.args.desk.now.key c.tell.new.pass (g.W.Wire.account c.tell.new.wire) c.in-Err-acknowledge.fault (g.W.Wire.account c.acknowledge.new.wire) c.acknowledge.new.pass made × AreCounts made × AcknowledgesOnly c.args.desk.now.key c.tell.new.senders made)
    (c.tell.ensures.stays.1 ∙ tagged) c.in-Err-acknowledge.ensures.told in
    let k = c.args.desk.now.key in
    let handled = c.in-Ok.ensures.handled.0 in
    let plan : k.0 ≡ c.self.inside.plan = ap (λ (x : Key). x.0) (c.requires.key ∙ sym (ap (λ (x : PumpView). x.key) c.self.view_is)) in
    let ok = subst IsConsistent (sym plan) c.offices.ensures.consistent in
    let within : (v : ℕ) → are_neighbours k.0 k.1 v ≡ true → v < 16 = λ v near. omega (arith, near_within k.0 k.1 v ok near, ok.offices_fit) in
    let all = fault_after c.links_only_grow.ensures Exponential g.W.Wire.tells c.args.pass.now.tag k (last_of c.handle.new.self.lasts) (last_of c.tell.new.self.lasts) c.args.now (heard_of handled.handled) c.none-senders.result c.handle.new.senders c.tell.new.senders c.advance.new.pass c.tell.new.pass c.acknowledge.new.pass (g.W.Wire.account c.handle.new.wire)
    (g.W.Wire.account c.tell.new.wire) (g.W.Wire.account c.acknowledge.new.wire) c.in-Ok-tell.sent c.in-Err-acknowledge.fault told.0 c.none-senders.ensures c.in-Ok.ensures.handled.2 within spoke told.1 told.2 told.3 in
    AfterRules c.handle.new.pass c.advance.new.pass (g.W.Wire.account c.handle.new.wire) c.in-Ok.counts.0 c.in-Ok.counts.1 c.in-Ok-advance.rules c.in-Ok.ensures.handled.0 rules (last_of c.handle.new.self.lasts) c.in-Ok.ensures.handled.3 all.made all.told all.due_once all.counts_broke all.remembers

pub returns-clause-turned : goal.returns-clause-turned
returns-clause-turned g c =
    let rules = rules_with c.handle.new.pass.tag c.args.pass.now.tag c.args.desk.now.key (Ok c.in-Ok-advance.rules) c.handle.new.pass c.advance.new.pass c.handle.ensures.stays.1 c.in-Ok-advance.ensures.advanced in
    let tagged : c.advance.new.pass.tag ≡ c.args.pass.now.tag = c.advance.ensures.stays.1 ∙ c.handle.ensures.stays.1 in
    let spoke = spoke_with Exponential g.W.Wire.tells c.advance.new.pass.tag c.args.pass.now.tag c.args.desk.now.key (last_of c.handle.new.self.lasts) (last_of c.tell.new.self.lasts) c.args.now c.advance.new.pass (g.W.Wire.account c.handle.new.wire) c.handle.new.senders c.in-Ok-tell.sent
    (g.W.Wire.account c.tell.new.wire) c.tell.new.pass c.tell.new.senders tagged c.in-Ok-tell.ensures.told in
    let told = subst (λ (t : ℕ). (made : List Made) × Told g.W.Wire.tells t c.args.desk.now.key c.tell.new.pass (g.W.Wire.account c.tell.new.wire) (g.W.Wire.account c.acknowledge.new.wire) c.acknowledge.new.pass made × (length made ≡ c.in-Ok-acknowledge.sent) × AreCounts made × Acknowledges c.args.desk.now.key c.tell.new.senders made)
    (c.tell.ensures.stays.1 ∙ tagged) c.in-Ok-acknowledge.ensures.told in
    let k = c.args.desk.now.key in
    let handled = c.in-Ok.ensures.handled.0 in
    let plan : k.0 ≡ c.self.inside.plan = ap (λ (x : Key). x.0) (c.requires.key ∙ sym (ap (λ (x : PumpView). x.key) c.self.view_is)) in
    let ok = subst IsConsistent (sym plan) c.offices.ensures.consistent in
    let within : (v : ℕ) → are_neighbours k.0 k.1 v ≡ true → v < 16 = λ v near. omega (arith, near_within k.0 k.1 v ok near, ok.offices_fit) in
    let all = counts_after c.links_only_grow.ensures Exponential g.W.Wire.tells c.args.pass.now.tag k (last_of c.handle.new.self.lasts) (last_of c.tell.new.self.lasts) c.args.now (heard_of handled.handled) c.none-senders.result c.handle.new.senders c.tell.new.senders c.advance.new.pass c.tell.new.pass c.acknowledge.new.pass (g.W.Wire.account c.handle.new.wire)
    (g.W.Wire.account c.tell.new.wire) (g.W.Wire.account c.acknowledge.new.wire) c.in-Ok-tell.sent c.in-Ok-acknowledge.sent told.0
    c.none-senders.ensures c.in-Ok.ensures.handled.2 (λ v x. handled_near c.args.pass.now.tag k c.args.pass.now c.handle.new.pass handled.handled v handled.handling.handles x) within spoke told.1 told.2 told.3 told.4 in
    record {
      mid = c.handle.new.pass;
      ruled = c.advance.new.pass;
      received = g.W.Wire.account c.handle.new.wire;
      handled = c.in-Ok.ensures.handled.0;
      finally = c.in-Ok-advance.rules;
      rules = rules;
      all_rules = omega (arith, c.in-Ok.ensures.handled.1);
      made = all.made;
      told = all.told;
      sent = all.counted;
      marked = last_of c.handle.new.self.lasts;
      marks = c.in-Ok.ensures.handled.3;
      all_due = all.all_due;
      due_once = all.due_once;
      counts = all.counts_go;
      remembers = all.remembers;
    }
