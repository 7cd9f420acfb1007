use Rattle.std.proofs.Common.{◌≡◌, drop}
use Rattle.std.specs.Prelude.{find, is_none}
use Rattle.datagram_seals.specs.texts.SecretText.{secret_between}
use Rattle.datagram_seals.proofs.texts.reading.first_without.Given as goal

-- those looked at share something
abbrev pub invariant-loop-other : goal.invariant-loop-other
invariant-loop-other l = find (λ other. is_none (secret_between l.keys l.office other)) l.others ≡ find (λ other. is_none (secret_between l.keys l.office other)) (drop l.other-index l.others)
