use Rattle.std.proofs.Common.{◌≡◌, ◌-◌, length, drop}
use Rattle.datagram_seals.specs.frames.Seals.{differing_bits}
use Rattle.datagram_seals.proofs.frames.secret.differing.Given as goal

-- the last places are done, as many as turns
abbrev pub invariant-places : goal.invariant-places
invariant-places l = l.bits ≡ differing_bits (drop (length l.ours - l.i) l.ours) (drop (length l.ours - l.i) l.theirs)
