use Rattle.std.proofs.Common.{ap, subst}
use Rattle.std.specs.Prelude.{MatchResult}
use Rattle.socket_pump.specs.declared.last.Lasts.{Lasts}
use Rattle.socket_pump.specs.Last.{PumpView, last_of}
use Rattle.socket_pump.specs.refinement.Stages.{HandledFrom, BrokeHandlingAll}
use Rattle.socket_pump.proofs.pump.Pump.handle.Goals as goal

pub returns-clause-handled : goal.returns-clause-handled
returns-clause-handled g c =
    let n = c.handle_all.new in
    let k = c.args.desk.now.key in
    let p = c.args.pass.now in
    let a = g.W.Wire.account c.args.wire.now in
    subst (λ (l : Lasts). MatchResult c.handle_all.result
    (λ r. HandledFrom g.W.Wire.tells p.tag k (last_of l) p a c.args.senders.now r.0 r.1 r.2 (g.W.Wire.account n.wire) n.pass n.senders (last_of n.last))
    (λ f. BrokeHandlingAll g.W.Wire.tells p.tag k (last_of l) p a f (g.W.Wire.account n.wire) n.pass (last_of n.last)))
    (ap (λ (x : PumpView). x.lasts) c.self.view_is) c.handle_all.ensures.handled
