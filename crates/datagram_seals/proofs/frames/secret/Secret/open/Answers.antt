use Rattle.std.proofs.Common.{◌≡◌, ◌∙◌, sym, ap, arith}
use Rattle.datagram_seals.specs.frames.Seals.{differing_bits, seal_of}
use Rattle.datagram_seals.proofs.frames_lemmas.SealsOpened.{too_short, opened, not_opened}
use Rattle.datagram_seals.proofs.frames.secret.Secret.open.Goals as goal

pub returns-then-datagram-lt-SEAL_BYTES-clause-no_frame : goal.returns-then-datagram-lt-SEAL_BYTES-clause-no_frame
returns-then-datagram-lt-SEAL_BYTES-clause-no_frame c = too_short c.args.self.now c.args.datagram.now c.if-datagram-lt-SEAL_BYTES.true

pub returns-then-bits-eq0-clause-opened : goal.returns-then-bits-eq0-clause-opened
returns-then-bits-eq0-clause-opened c =
    let front = c.split_at.result.0.now in
    let back = c.split_at.result.1.now in
    let none : differing_bits (seal_of c.args.self.now front) back ≡ 0 = ap (λ s. differing_bits s back) (sym c.seal_of.ensures) ∙ sym c.differing-bits.ensures ∙ c.if-bits-eq0.true in
    opened c.args.self.now c.args.datagram.now front back (omega (arith, c.if-datagram-lt-SEAL_BYTES.false)) c.split_at.ensures.front c.split_at.ensures.back none

pub returns-else-bits-eq0-clause-no_frame : goal.returns-else-bits-eq0-clause-no_frame
returns-else-bits-eq0-clause-no_frame c =
    let front = c.split_at.result.0.now in
    let back = c.split_at.result.1.now in
    not_opened c.args.self.now c.args.datagram.now front back c.split_at.ensures.front c.split_at.ensures.back (λ e. c.if-bits-eq0.false (c.differing-bits.ensures ∙ ap (λ s. differing_bits s back) c.seal_of.ensures ∙ e))
