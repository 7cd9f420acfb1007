-- The bytes of the number that was read are those that it was read from.
use Rattle.std.proofs.Common.{sym, rules}
use Rattle.std.proofs.lemmas.Nat.{be_bytes_8}
use Rattle.bottle_values.proofs.Value.of_bytes.Goals as goal

pub returns-clause-bytes : goal.returns-clause-bytes
returns-clause-bytes c =
    sym (be_bytes_8 c.args.bytes _ (search rules) (search rules) (search rules))
