use Rattle.std.proofs.Common.{◌≡◌, ◌++◌, take, drop}
use Rattle.datagram_seals.specs.frames.Hmac.{masked as masked_by}
use Rattle.datagram_seals.proofs.frames.digest.masked.Given as goal

abbrev pub invariant-bytes : goal.invariant-bytes
invariant-bytes l = l.turned ≡ masked_by l.mask (take l.i l.block) ++ drop l.i l.block
