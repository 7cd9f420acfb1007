use Rattle.std.proofs.Common.{refl, arith}
use Rattle.std.proofs.lemmas.List.FromFn.{map-range_with_len_more}
use Rattle.datagram_seals.specs.texts.SecretText.{secret_between}
use Rattle.datagram_seals.proofs.texts.reading.secrets_with.Goals as goal

pub loop-number-preserved : goal.loop-number-preserved
loop-number-preserved c =
    rw (c.in_ok-push.ensures.items, c.loop-number.invariant, map-range_with_len_more (secret_between c.args.keys.now c.args.office) 0 c.loop-number.number c.loop-number.number (omega arith), c.secret_between.ensures, c.new.ensures) refl
