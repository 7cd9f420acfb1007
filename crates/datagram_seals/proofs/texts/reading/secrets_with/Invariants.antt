use Rattle.std.proofs.Common.{◌≡◌, map}
use Rattle.std.specs.List.{range_with_len}
use Rattle.datagram_seals.specs.texts.SecretText.{secret_between}
use Rattle.datagram_seals.proofs.texts.reading.secrets_with.Given as goal

abbrev pub invariant-loop-number : goal.invariant-loop-number
invariant-loop-number l = l.secrets.items ≡ map (secret_between l.keys l.office) (range_with_len 0 l.number)
