use Rattle.socket_pump.proofs.memory_lemmas.OneFault.{passed_hands, failed_alone}
use Rattle.socket_pump.proofs.memory.fault.FaultWireWire.receive.Goals as goal

pub returns-then-fails-clause-account : goal.returns-then-fails-clause-account
returns-then-fails-clause-account g c =
    failed_alone g.W.Wire.tells c.is_due-fails.result c.args.self.now.left c.after_call-self.result (g.W.Wire.account c.args.self.now.wire) c.is_due-fails.ensures c.if-fails.true c.after_call-self.ensures

pub returns-clause-account : goal.returns-clause-account
returns-clause-account g c =
    passed_hands g.W.Wire.tells c.is_due-fails.result c.args.self.now.left c.after_call-self.result (g.W.Wire.account c.args.self.now.wire) (g.W.Wire.account c.receive.new.self) c.receive.result c.receive.new.buffer
    c.is_due-fails.ensures c.if-fails.false c.after_call-self.ensures c.receive.ensures.account
