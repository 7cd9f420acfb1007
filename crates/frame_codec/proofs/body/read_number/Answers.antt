-- The bytes of the number that was read are those that it was read from.
use Rattle.std.proofs.Common.{sym, rules}
use Rattle.std.proofs.lemmas.Nat.{be_bytes_8}
use Rattle.frame_codec.proofs.body.read_number.Goals as goal

pub returns-clause-number : goal.returns-clause-number
returns-clause-number c =
    sym (be_bytes_8 c.args.bytes.now _ (search rules) (search rules) (search rules))
