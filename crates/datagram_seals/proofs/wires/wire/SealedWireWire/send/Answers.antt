use Rattle.std.proofs.Common.{refl}
use Rattle.datagram_seals.proofs.wires_lemmas.Accounts.{posted}
use Rattle.datagram_seals.proofs.wires.wire.SealedWireWire.send.Goals as goal

pub returns-in-Ok-clause-account : goal.returns-in-Ok-clause-account
returns-in-Ok-clause-account g c =
    posted g.W.Wire.tells c.args.self.now.secrets.now c.args.self.now.secrets.now c.args.self.now.failures c.index.result c.args.to c.in-Some.length (g.W.Wire.account c.args.self.now.wire) (g.W.Wire.account c.send.new.self) c.args.bytes.now _ c.sealed_with.new.out c.in-Ok.field-0 c.in-Ok.ensures.account refl c.in-Some.ensures.sealed
