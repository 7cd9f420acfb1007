use Rattle.std.proofs.Common.{rules}
use Rattle.std.specs.Prelude.{bit_xor}
use Rattle.std.proofs.lemmas.List.Edits.{map_over_more}
use Rattle.datagram_seals.proofs.frames.digest.masked.Goals as goal

pub bytes-preserved : goal.bytes-preserved
bytes-preserved c = search (rules, map_over_more (λ byte. bit_xor byte c.args.mask))
